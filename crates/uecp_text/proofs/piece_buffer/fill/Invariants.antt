use Rattle.std.proofs.Common.{◌*◌}
use Rattle.uecp_text.proofs.DigitValues.{Decoded}
use Rattle.uecp_text.proofs.piece_buffer.fill.Given as goal

abbrev pub invariant-fours : goal.invariant-fours
invariant-fours l = Decoded l.text l.room (4 * l.i)

abbrev pub invariant-others : goal.invariant-others
invariant-others l = Decoded l.text l.room l.i
