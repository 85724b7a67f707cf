-- A list read place by place.
use Rattle.std.proofs.Common.{◌≡◌, ℕ, List, [], Some, None, drop, inl, inr}
use Rattle.std.specs.List.{slice_get}
use Rattle.std.proofs.lemmas.List.{drop_all}
use Rattle.std.proofs.lemmas.Option.{slice_get_cases}

-- Where nothing stands at a place, nothing is left from there on.
pub none_left : (xs : List ℕ) (k : ℕ) → slice_get xs k ≡ None → drop k xs ≡ []
none_left xs k none = elim (slice_get_cases xs k).1 [
  | inl there ↦ absurd (let some : slice_get xs k ≡ Some there.0 = there.2 in cc)
  | inr past ↦ drop_all k xs past.0
]
