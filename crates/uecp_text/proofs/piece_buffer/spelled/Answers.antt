use Rattle.std.proofs.Common.{arith}
use Rattle.uecp_text.proofs.DigitValues.{sums_fit}
use Rattle.uecp_text.proofs.piece_buffer.spelled.Goals as goal

pub overflow_add-result : goal.overflow_add-result
overflow_add-result c = sums_fit c.from.result c.from-2.result (omega arith) (omega arith)
