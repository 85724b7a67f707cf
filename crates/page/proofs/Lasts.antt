-- The last of a list of values.
use Rattle.std.proofs.Common.{◌≡◌, ◌-◌, suc, List, [], ◌∷◌, length, option_map, refl, ◌∙◌, ap, sym, arith}
use Rattle.std.specs.Prelude.{slice_get}
use Rattle.serde_json.specs.declared.value.Value.{Value}
use Rattle.serde_json.specs.View.{view, items_view}
use Rattle.page.specs.Shown.{last_item}

pub last_is : (xs : List Value) → last_item (items_view xs) ≡ option_map view (slice_get xs (length xs - 1))
last_is [] = refl
last_is (x ∷ []) = refl
last_is (x ∷ y ∷ ys) =
    let next : length (x ∷ y ∷ ys) - 1 ≡ suc (length (y ∷ ys) - 1) = omega arith in
    last_is (y ∷ ys) ∙ sym (ap (λ k. option_map view (slice_get (x ∷ y ∷ ys) k)) next)
