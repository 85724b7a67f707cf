use Rattle.std.proofs.Common.{arith, refl}
use Rattle.std.proofs.lemmas.Bool.{lt-ltb}
use Rattle.uecp_frame.proofs.search.are_below.Goals as goal

pub returns-clause-no : goal.returns-clause-no
returns-clause-no c = λ below. rw (
  lt-ltb _ _ (below 0 (omega arith)),
  lt-ltb _ _ (below 1 (omega arith)),
  lt-ltb _ _ (below 2 (omega arith)),
  lt-ltb _ _ (below 3 (omega arith)),
  lt-ltb _ _ (below 4 (omega arith)),
  lt-ltb _ _ (below 5 (omega arith)),
  lt-ltb _ _ (below 6 (omega arith)),
  lt-ltb _ _ (below 7 (omega arith)),
) refl
