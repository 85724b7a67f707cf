-- What is left of a ring is a ring, and so is a ring with one pair more.
use Rattle.std.proofs.Common.{◌≡◌, ◌≢◌, ℕ, zero, suc, List, [], ◌∷◌, None, refl, arith, take}
use Rattle.std.proofs.lemmas.Bool.{ne_eqb}
use Rattle.std.proofs.lemmas.List.{length-take}
use Rattle.uecp_elements.specs.declared.code.Code.{Code}
use Rattle.reply_ring.specs.Ring.{kept_code, keep, HasEachOnce, IsRing}

-- a counter that no pair has is in no part of the ring
pub none_left : (n : ℕ) (ring : List (ℕ × Code)) (counter : ℕ) → kept_code ring counter ≡ None
    → kept_code (take n ring) counter ≡ None
none_left zero ring counter h = refl
none_left (suc n) [] counter h = refl
none_left (suc n) (pair ∷ older) counter h = grind (arith, none_left n older counter)

once_left : (n : ℕ) (ring : List (ℕ × Code)) → HasEachOnce ring → HasEachOnce (take n ring)
once_left zero ring h = tt
once_left (suc n) [] h = tt
once_left (suc n) (pair ∷ older) h = (none_left n older pair.0 h.0, once_left n older h.1)

pub ring-keep : (ring : List (ℕ × Code)) (counter : ℕ) (code : Code) → IsRing ring → counter ≢ 0
    → kept_code ring counter ≡ None → IsRing (keep ring counter code)
ring-keep ring counter code is numbered fresh = record {
  at_most = omega (arith, length-take 126 ring);
  once = (none_left 126 ring counter fresh, once_left 126 ring is.once);
  numbered = rw (ne_eqb counter 0 numbered) (none_left 126 ring 0 is.numbered);
}
