-- What the walks over a store go by.
use Rattle.std.proofs.Common.{◌≡◌, ℕ, suc, ◌+◌, ◌-◌, ◌<◌, List, [], ◌∷◌, Some, None, ap, drop, inl, inr, arith}
use Rattle.std.specs.List.{slice_get}
use Rattle.std.proofs.lemmas.List.{drop_all}
use Rattle.std.proofs.lemmas.Option.{slice_get_cases}
use Rattle.rds_store.specs.Refusals.{count_up}

-- Where nothing stands at a place, nothing is left from there on.
pub none_left : (xs : List ℕ) (k : ℕ) → slice_get xs k ≡ None → drop k xs ≡ []
none_left xs k none = elim (slice_get_cases xs k).1 [
  | inl there ↦ absurd (let some : slice_get xs k ≡ Some there.0 = there.2 in cc)
  | inr past ↦ drop_all k xs past.0
]

-- Numbers that are counted up to a stop begin with the first of them.
pub count_up_from : (stop first : ℕ) → first < stop → count_up (stop - first) first ≡ first
    ∷ count_up (stop - (first + 1)) (first + 1)
count_up_from stop first below = ap (λ n. count_up n first)
    (let one_more : stop - first ≡ suc (stop - (first + 1)) = omega arith in one_more)
