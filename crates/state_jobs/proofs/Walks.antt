-- What the loops over a state's parts go by.
use Rattle.std.proofs.Common.{◌≡◌, ℕ, zero, suc, ◌+◌, List, [], ◌∷◌, ◌++◌, drop, flat_map, Some, None, refl, ap}
use Rattle.std.proofs.Common.{◌∙◌, arith, unwrap_or}
use Rattle.std.specs.List.{slice_get}
use Rattle.uecp_link.specs.Server.{Held}
use Rattle.state_jobs.specs.StateLines.{held_line}

-- Where nothing stands at a place, nothing is left from there on.
pub none_left : {A : Type 0} (xs : List A) (k : ℕ) → slice_get xs k ≡ None → drop k xs ≡ []
none_left [] zero none = refl
none_left [] (suc k) none = refl
none_left (x ∷ xs) zero none = cc
none_left (x ∷ xs) (suc k) none = none_left xs k none

-- What stands at a place is the first of what is left from there on.
left_from : {A : Type 0} (xs : List A) (k : ℕ) (x : A) → slice_get xs k ≡ Some x → drop k xs ≡ x ∷ drop (suc k) xs
left_from [] zero x is = cc
left_from [] (suc k) x is = cc
left_from (y ∷ ys) zero x is = ap (λ o. unwrap_or o y ∷ ys) is
left_from (y ∷ ys) (suc k) x is = left_from ys k x is

-- The line of the message at a place is the first of what is left from there on.
pub line_first : (held : List Held) (place : ℕ) (h : Held) → slice_get held place ≡ Some h
    → flat_map held_line (drop place held) ≡ held_line h ++ flat_map held_line (drop (place + 1) held)
line_first held place h is =
    let next : suc place ≡ place + 1 = omega arith in
    ap (flat_map held_line) (left_from held place h is)
    ∙ ap (λ k. held_line h ++ flat_map held_line (drop k held)) next
