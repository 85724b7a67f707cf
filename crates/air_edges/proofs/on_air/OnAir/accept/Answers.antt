use Rattle.std.proofs.Common.{Bool, true, refl, sym, subst, inr}
use Rattle.air_edges.specs.Edge.{Edge, Accepts}
use Rattle.air_edges.proofs.Waiting.{accepts_none}
use Rattle.air_edges.proofs.on_air.OnAir.accept.Goals as goal

pub returns-in-Some : goal.returns-in-Some
returns-in-Some g c =
    subst (λ (b : Bool). Accepts g.S.Sockets.joins b c.args.self.now c.add.new.self) (sym c.if-not-came.false)
    (subst (λ (e : Edge g.row.S.Denot g.row.H.Denot). Accepts g.S.Sockets.joins true e c.add.new.self) c.self.view_is
    (c.join.new.self, inr (c.in-Some.output, c.in-Some.origin, c.in-Some.ensures, c.add.ensures)))

pub returns-in-None : goal.returns-in-None
returns-in-None g c =
    accepts_none g.S.Sockets.joins c.args.came _ c.args.self.now _ c.join.new.self c.if-not-came.false c.self.view_is
    c.in-None.ensures refl
