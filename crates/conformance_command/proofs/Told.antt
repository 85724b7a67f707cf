-- What is told, as it is put down and written out.
use Rattle.std.proofs.Common.{◌≡◌, ℕ, [], List, ◌++◌, IsTrue, ap, ◌∙◌}
use Rattle.uecp_text.specs.Written.{Kept, Adds}

-- what was put down behind nothing is all that is kept
pub put_first : (a b : Kept) (line : List ℕ) → a.bytes ≡ [] → Adds a b line → IsTrue b.is_whole → b.bytes ≡ line
put_first a b line none adds whole = (adds whole).1 ∙ ap (λ l. l ++ line) none
