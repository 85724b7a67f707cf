use Rattle.std.proofs.Common.{refl, subst, ℕ}
use Rattle.page_server.specs.declared.server.Serving.{Serving}
use Rattle.page_server.specs.Guesting.{IsHeard}
use Rattle.page_server.proofs.server.Serving.welcome.Goals as goal

pub returns-clause-welcomes : goal.returns-clause-welcomes
returns-clause-welcomes g c =
    let come : Serving g.row.C.Denot = record c.args.self.now { guests = c.add.new.self } in
    let P : ℕ → Type 0 = λ n. IsHeard g.C.Connection.talk g.C.Connection.origin g.C.Connection.numbered
    g.C.Connection.reads g.S.Sockets.reads c.add.new.sockets n come c.hear.new.self in
    (come, c.add.new.sockets, c.add.ensures.comes, refl, subst P c.number-number.ensures c.hear.ensures.hears)
