-- Bytes with their check behind them, and what is between.
use Rattle.std.proofs.Common.{◌≡◌, ℕ, ◌+◌, List, ◌∷◌, length}
use Rattle.std.proofs.Common.{take, drop, ap, sym, ◌∙◌, arith, length-append}
use Rattle.std.proofs.Math.Seq.{take-append_seam}
use Rattle.uecp_frame.specs.Frame.{high_first}
use Rattle.uecp_frame.specs.Check.{check}
use Rattle.end_images.specs.Images.{version, sealed}

pub sealed_length : (xs : List ℕ) → length (sealed xs) ≡ length xs + 2
unfolding sealed
sealed_length xs = length-append xs (high_first (check xs))

-- Bytes with their check are those of one list alone.
pub sealed_same : (xs ys : List ℕ) → sealed xs ≡ sealed ys → xs ≡ ys
unfolding sealed
sealed_same xs ys same =
    let long : length xs ≡ length ys =
    omega (arith, sealed_length xs, sealed_length ys, ap (λ (l : List ℕ). length l) same) in
    sym (take-append_seam xs (high_first (check xs))) ∙ (λ i. take (long i) (same i))
    ∙ take-append_seam ys (high_first (check ys))

-- So is the content of an image.
pub content_same : (kind : ℕ) (bytes content other : List ℕ) → bytes ≡ sealed (version ∷ kind ∷ content)
    → bytes ≡ sealed (version ∷ kind ∷ other) → content ≡ other
content_same kind bytes content other first second =
    ap (drop 2) (sealed_same (version ∷ kind ∷ content) (version ∷ kind ∷ other) (sym first ∙ second))
