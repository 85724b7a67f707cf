use Rattle.std.proofs.Common.{subst, sym}
use Rattle.std.proofs.Math.Numerals.{add-one}
use Rattle.live_edges.specs.Patience.{Misses}
use Rattle.live_edges.proofs.Dialling.{says_then, misses_then, misses_more, over_as_before}
use Rattle.live_edges.proofs.patient.PatientConnections.open.Goals as goal

pub returns-in_default : goal.returns-in_default
returns-in_default g c =
    let opens = g.C.Connections.opens in (
      c.loop-try._try,
      misses_then opens _ _ _ _ c.loop-try.invariant.missed c.next.ensures.connect,
      over_as_before _ _ _ c.loop-try.invariant.says.0 c.in_default.ensures.over,
      says_then c.args.self.now c.loop-try.self c.next.new.self c.loop-try.invariant.says c.next.ensures.says,
    )

pub returns-in-Some-try_once : goal.returns-in-Some-try_once
returns-in-Some-try_once g c =
    let opens = g.C.Connections.opens in
    let next = says_then c.args.self.now c.loop-try.self c.next.new.self c.loop-try.invariant.says c.next.ensures.says
    in (
      c.loop-try._try,
      c.next.new.self.connect,
      misses_then opens _ _ _ _ c.loop-try.invariant.missed c.next.ensures.connect,
      c.in-Some-try_once.ensures.tries,
      says_then c.args.self.now c.next.new.self c.try_once.new.self next c.try_once.ensures.says,
    )

pub loop-try-preserved : goal.loop-try-preserved
loop-try-preserved g c =
    let opens = g.C.Connections.opens in
    let next = says_then c.args.self.now c.loop-try.self c.next.new.self c.loop-try.invariant.says c.next.ensures.says
    in
    record {
      missed = subst (λ n. Misses opens n c.args.self.now.connect c.try_once.new.self.connect)
          (sym (add-one c.loop-try._try))
          (misses_more opens _ _ _ _
          (misses_then opens _ _ _ _ c.loop-try.invariant.missed c.next.ensures.connect)
          c.in_default-try_once.ensures.tries);
      says = says_then c.args.self.now c.next.new.self c.try_once.new.self next c.try_once.ensures.says;
    }
