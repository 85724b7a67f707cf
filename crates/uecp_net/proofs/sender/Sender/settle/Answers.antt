use Rattle.std.proofs.Common.{All, IsSome, ap, sym, subst, ◌∙◌}
use Rattle.uecp_link.specs.Server.{counters_waiting}
use Rattle.uecp_link.specs.Window.{code_under}
use Rattle.uecp_net.proofs.Told.{all_told}
use Rattle.uecp_net.proofs.Loans.{delivers_loan}
use Rattle.uecp_net.proofs.sender.Sender.settle.Goals as goal

pub codes_of-requires : goal.codes_of-requires
codes_of-requires g c =
    let all = all_told c.args.self.now.sender.server c.send_on_any.new.self.sender.server c.send_on_any.new.marks.items
    c.send_on_any.ensures.follows c.in_ok-tries.ensures.idle in
    subst (All (λ counter. IsSome (code_under counter c.send_on_any.new.marks.items)))
    (sym (c.counters_of-counters.ensures.counters ∙ ap (λ s. counters_waiting s.sender.server) c.self.view_is)) all

pub returns-in_err-tries-clause-loan : goal.returns-in_err-tries-clause-loan
returns-in_err-tries-clause-loan g c =
    let (ended, delivers) = c.send_on_any.ensures.delivers in
    delivers_loan g.C.Connections.opens g.C.Connections.closes g.C.Input.Read.remaining g.C.Output.Write.contents ended
    _ _
    c.send_on_any.new.self _ _ _ delivers

pub returns-clause-loan : goal.returns-clause-loan
returns-clause-loan g c =
    let (ended, delivers) = c.send_on_any.ensures.delivers in
    delivers_loan g.C.Connections.opens g.C.Connections.closes g.C.Input.Read.remaining g.C.Output.Write.contents ended
    _ _
    c.send_on_any.new.self _ _ _ delivers
