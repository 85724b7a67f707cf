use Rattle.std.proofs.Common.{length}
use Rattle.rds_store.proofs.opening_store.+has_duplicate.Given as goal

abbrev pub decreases-has_duplicate : goal.decreases-has_duplicate
decreases-has_duplicate l = length l.numbers.now
