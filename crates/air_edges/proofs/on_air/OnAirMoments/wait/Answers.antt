use Rattle.std.proofs.Common.{rules, arith, ◌≡◌, ◌^◌, ◌-◌, refl, inl, inr}
use Rattle.air_edges.proofs.Waiting.{passes_more}
use Rattle.air_edges.proofs.on_air.OnAirMoments.wait.Goals as goal

pub returns-in-Some : goal.returns-in-Some
returns-in-Some g c =
    (c.loop-turn._turn, c.loop-turn.self, c.loop-turn.invariant, inl c.in-Some.ensures)

pub loop-turn-preserved : goal.loop-turn-preserved
loop-turn-preserved g c =
    let s = g.S.Sockets in
    passes_more s.reads s.waits s.opens s.joins c.args.is_open c.loop-turn._turn c.args.self.now c.loop-turn.self
    c.turn.new.self c.loop-turn.invariant c.in-None.ensures

pub returns : goal.returns
returns g c =
    let all : c.loop-turn._turn ≡ 2 ^ 64 - 1 = search (rules, arith) in
    (c.loop-turn._turn, c.loop-turn.self, c.loop-turn.invariant, inr (all, refl, refl))
