-- Bytes with their check are those of one list alone.
use Rattle.std.proofs.Common.{◌≡◌, ℕ, List, length, ap, arith, length-append}
use Rattle.uecp_frame.specs.Frame.{high_first}
use Rattle.uecp_frame.specs.Check.{check}
use Rattle.end_images.specs.Images.{sealed}
use Rattle.state_files.proofs.Lists.{apart}

pub sealed_same : (xs ys : List ℕ) → sealed xs ≡ sealed ys → xs ≡ ys
unfolding sealed
sealed_same xs ys same =
    let long : length xs ≡ length ys =
    omega (
      arith,
      length-append xs (high_first (check xs)),
      length-append ys (high_first (check ys)),
      ap (λ (l : List ℕ). length l) same,
    ) in
    (apart xs ys (high_first (check xs)) (high_first (check ys)) long same).0
