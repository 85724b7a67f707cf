use Rattle.std.proofs.Common.{◌*◌}
use Rattle.uecp_text.proofs.Spaced.{Spaced}
use Rattle.uecp_text.proofs.piece_buffer.fill_spaced.Given as goal

abbrev pub invariant-twos : goal.invariant-twos
invariant-twos l = Spaced l.text l.room (2 * l.i)

abbrev pub invariant-others : goal.invariant-others
invariant-others l = Spaced l.text l.room l.i
