-- Who is taken of those who wait, and who stays.
use Rattle.std.proofs.Common.{◌≡◌, ◌<◌, ◌≤◌, ◌+◌, ℕ, zero, suc, Bool, true, false, not, List, [], ◌∷◌, ◌++◌, length}
use Rattle.std.proofs.Common.{take, drop}
use Rattle.std.proofs.Common.{refl, sym, ap, ◌∙◌, arith, cond, IfSome, Option, Some, None, slice_index_or}
use Rattle.std.specs.Prelude.{remove, unwrap_or, if◌then◌else◌}
use Rattle.std.specs.List.{position_from}
use Rattle.std.proofs.lemmas.Bool.{lt-ltb, le-ltb}
use Rattle.std.proofs.lemmas.List.{length-take-le}
use Rattle.device_edges.specs.declared.lobby.Guest.{Guest}
use Rattle.device_edges.specs.Lobby.{ready_place, silent_place, next_place, without, with_place, TakesFrom}

-- a place that is found is one of them
later : {X : Type 0} (i : ℕ) (x : X) (xs : List X) (o : Option ℕ) → IfSome o (λ k. k < i + 1 + length xs)
    → IfSome o (λ k. k < i + length (x ∷ xs))
later i x xs None f = tt
later i x xs (Some k) f = grind (arith, f)

here : {X : Type 0} (i : ℕ) (x : X) (xs : List X) (b : Bool) (o : Option ℕ) → IfSome o (λ k. k < i + 1 + length xs)
    → IfSome (cond b (Some i) o) (λ k. k < i + length (x ∷ xs))
here i x xs true o f = grind arith
here i x xs false o f = later i x xs o f

found : {X : Type 0} (p : X → Bool) (i : ℕ) (xs : List X) → IfSome (position_from p i xs) (λ k. k < i + length xs)
found p i [] = tt
found p i (x ∷ xs) = here i x xs (p x) (position_from p (i + 1) xs) (found p (i + 1) xs)

below : {X : Type 0} (o : Option ℕ) (xs : List X) → IfSome o (λ k. k < 0 + length xs) → IfSome o (λ k. k < length xs)
below None xs f = tt
below (Some k) xs f = grind (arith, f)

pub silent_found : {G : Type 0} (guests : List (Guest G)) → IfSome (silent_place guests) (λ k. k < length guests)
silent_found guests = below (silent_place guests) guests (found (λ g. not g.is_ready) 0 guests)

-- the one at a place stands between those before and those behind
parted : {X : Type 0} (xs : List X) (i : ℕ) (d : X) → i < length xs
    → xs ≡ take i xs ++ slice_index_or xs i d ∷ drop (suc i) xs
parted [] i d few = absurd (grind (arith, few))
parted (x ∷ xs) zero d few = refl
parted (x ∷ xs) (suc i) d few = ap (λ ys. x ∷ ys) (parted xs i d (grind (arith, few)))

pub takes : {G : Type 0} (place : ℕ) (guests guests' : List (Guest G)) (guest : Guest G) → place < length guests
    → guest ≡ slice_index_or guests place guest → guests' ≡ remove guests place
    → TakesFrom (Some place) guests (Some guest.line) guests'
takes place guests guests' guest few is rest = (
  take place guests,
  guest,
  drop (suc place) guests,
  parted guests place guest few ∙ ap (λ g. take place guests ++ g ∷ drop (suc place) guests) (sym is),
  length-take-le place guests (grind (arith, few)),
  refl,
  rest,
)

-- one more joins, by room or in the place of one that goes
pub joins_others : {G : Type 0} (guests guests' : List (Guest G)) (guest : Guest G) → length guests < 8
    → guests' ≡ guests → guests' ++ guest ∷ [] ≡ with_place guests ++ guest ∷ []
joins_others guests guests' guest few is =
    ap (λ gs. gs ++ guest ∷ [])
    (is ∙ sym (ap (λ b. if b then guests else without (silent_place guests) guests) (lt-ltb (length guests) 8 few)))

pub joins_for_one : {G : Type 0} (guests guests' : List (Guest G)) (guest : Guest G) → 8 ≤ length guests
    → guests' ≡ without (silent_place guests) guests → guests' ++ guest ∷ [] ≡ with_place guests ++ guest ∷ []
joins_for_one guests guests' guest many is =
    ap (λ gs. gs ++ guest ∷ [])
    (is ∙ sym (ap (λ b. if b then guests else without (silent_place guests) guests) (le-ltb (length guests) 8 many)))

-- who has the place next
pub next_found : {G : Type 0} (guests : List (Guest G)) → IfSome (next_place guests) (λ k. k < length guests)
next_found [] = tt
next_found (g ∷ guests) =
    go (ready_place (g ∷ guests))
    (below (ready_place (g ∷ guests)) (g ∷ guests) (found (λ one. one.is_ready) 0 (g ∷ guests)))
  where
    go : (o : Option ℕ) → IfSome o (λ k. k < length (g ∷ guests)) → unwrap_or o 0 < length (g ∷ guests)
    go None f = grind arith
    go (Some k) f = f
