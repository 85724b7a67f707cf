-- The register after joined bytes.
use Rattle.std.proofs.Common.{◌≡◌, ℕ, List, ◌++◌, ◌∙◌, ap, fold, flat_map}
use Rattle.std.proofs.lemmas.List.Concat.{flat_map-append}
use Rattle.std.proofs.lemmas.List.Sums.{fold-append}
use Rattle.uecp_frame.specs.Check.{bits, with_bit, register_after}

pub register-append : (r : ℕ) (a b : List ℕ) → register_after r (a ++ b) ≡ register_after (register_after r a) b
register-append r a b = ap (fold with_bit r) (flat_map-append bits a b)
    ∙ fold-append with_bit r (flat_map bits a) (flat_map bits b)
