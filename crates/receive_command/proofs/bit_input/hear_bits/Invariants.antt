use Rattle.std.proofs.Common.{◌≡◌, [], take, IsTrue, is_some}
use Rattle.receive_command.specs.Bits.{HearsText}
use Rattle.receive_command.specs.View.{bits_of_hearing}
use Rattle.receive_command.proofs.bit_input.hear_bits.Given as goal

-- the first characters were heard, and all that there was to tell is written
abbrev pub invariant-loop-place : goal.invariant-loop-place
invariant-loop-place g l =
    HearsText l.form (is_some l.clock) (take l.place l.bytes)
    (bits_of_hearing l.fn.hearing (g.W.Write.contents l.fn.writer))
    (bits_of_hearing l.hearing (g.W.Write.contents l.writer))
    × (l.hearing.foreign ≡ l.fn.hearing.foreign) × (l.output.bytes ≡ []) × IsTrue l.output.is_whole
