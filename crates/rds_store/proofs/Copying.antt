-- Services are copied one after another.
use Rattle.std.proofs.Common.{◌≡◌, ℕ, suc, zero, List, [], ◌∷◌, ◌++◌, length, take, drop, slice_get, Some, None, IfSome}
use Rattle.std.proofs.Common.{refl, sym, ap, ◌∙◌}
use Rattle.std.specs.List.{AllByRecursion}
use Rattle.std.specs.Map.{keys_of, values_of}
use Rattle.indexmap.specs.Layout.{set_value_at}
use Rattle.rds_store.specs.Value.{ServiceData}
use Rattle.rds_store.specs.Kept.{shape_of}

abbrev Held : Type 0
Held = List (ℕ × List ServiceData)

pub written_past : (es : Held) (i : ℕ) (w : List ServiceData) → slice_get (values_of es) i ≡ None
    → es ≡ set_value_at es i w
written_past [] i w h = refl
written_past (e ∷ es) zero w h = absurd_some h
  where
    absurd_some : Some e.1 ≡ None → e ∷ es ≡ (e.0, w) ∷ es
    absurd_some h = cc
written_past (e ∷ es) (suc i) w h = ap (λ rest. e ∷ rest) (written_past es i w h)

-- the service that is copied next has as many sets
pub next_length : (i : ℕ) (held others : Held) (o : ℕ × List ServiceData) → shape_of held ≡ shape_of others
    → slice_get others i ≡ Some o
    → IfSome (slice_get (values_of (take i others ++ drop i held)) i) (λ h. length h ≡ length o.1)
next_length i [] [] o shape at = cc
next_length i [] (b ∷ bs) o shape at = cc
next_length i (a ∷ rs) [] o shape at = cc
next_length zero (a ∷ rs) (b ∷ bs) o shape at =
    let heads : ◌≡◌ {A = ℕ × ℕ} (a.0, length a.1) (b.0, length b.1) = cc in
    let same : b ≡ o = cc in
    ap (λ p. p.1) heads ∙ ap (λ p. length p.1) same
next_length (suc i) (a ∷ rs) (b ∷ bs) o shape at =
    let rest : shape_of rs ≡ shape_of bs = cc in
    next_length i rs bs o rest at

-- and is then what it is there
pub next_copied : (i : ℕ) (held others : Held) (o : ℕ × List ServiceData) → shape_of held ≡ shape_of others
    → slice_get others i ≡ Some o
    → set_value_at (take i others ++ drop i held) i o.1 ≡ take (suc i) others ++ drop (suc i) held
next_copied i held [] o shape at = cc
next_copied i [] (b ∷ bs) o shape at = cc
next_copied zero (a ∷ rs) (b ∷ bs) o shape at =
    let heads : ◌≡◌ {A = ℕ × ℕ} (a.0, length a.1) (b.0, length b.1) = cc in
    let same : b ≡ o = cc in
    (λ i. ((heads i).0, o.1) ∷ rs) ∙ (λ i. (b.0, (sym same i).1) ∷ rs)
next_copied (suc i) (a ∷ rs) (b ∷ bs) o shape at =
    let rest : shape_of rs ≡ shape_of bs = cc in
    ap (λ es. b ∷ es) (next_copied i rs bs o rest at)

-- services of one order and as many sets have one shape
pub same_shape : (sets : ℕ) (held others : Held) → keys_of held ≡ keys_of others
    → AllByRecursion (λ e. length e.1 ≡ sets) held → AllByRecursion (λ e. length e.1 ≡ sets) others
    → shape_of held ≡ shape_of others
same_shape sets [] [] keys h k = refl
same_shape sets [] (b ∷ bs) keys h k = cc
same_shape sets (a ∷ rs) [] keys h k = cc
same_shape sets (a ∷ rs) (b ∷ bs) keys h k =
    let first : a.0 ≡ b.0 = cc in
    let rest : keys_of rs ≡ keys_of bs = cc in
    let count : length a.1 ≡ length b.1 = h.0 ∙ sym k.0 in
    λ i. (first i, count i) ∷ same_shape sets rs bs rest h.1 k.1 i
