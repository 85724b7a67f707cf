use Rattle.std.proofs.Common.{◌≡◌, [], IsTrue, is_some}
use Rattle.receive_command.proofs.HeardBits.{HasHeard}
use Rattle.receive_command.proofs.bits.receive_bits.Given as goal

-- all that was read was heard, and all that there was to tell and to say was
abbrev pub invariant-loop-turn : goal.invariant-loop-turn
invariant-loop-turn g l =
    HasHeard l.form (is_some l.clock) (g.R.Read.remaining l.fn.reader) (g.R.Read.remaining l.reader)
    (g.W.Write.contents l.fn.writer) (g.W.Write.contents l.writer) (l.fn.errors)
    (l.errors) l.hearing
    × (l.output.bytes ≡ []) × IsTrue l.output.is_whole
