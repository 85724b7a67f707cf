-- What the loops over an end's parts go by.
use Rattle.std.proofs.Common.{◌≡◌, ℕ, zero, suc, ◌+◌, List, [], ◌∷◌, ◌++◌, drop, Some, None, refl, ap}
use Rattle.std.proofs.Common.{sym, ◌∙◌, arith, unwrap_or}
use Rattle.std.specs.List.{slice_get}
use Rattle.uecp_elements.specs.declared.code.Code.{Code}
use Rattle.uecp_elements.specs.Codes.{byte_of}
use Rattle.uecp_text.specs.Written.{Kept, Adds}
use Rattle.uecp_text.proofs.Public.{adds_then}
use Rattle.end_images.specs.Images.{pair_bytes}

-- Where nothing stands at a place, nothing is left from there on.
pub none_left : {A : Type 0} (xs : List A) (k : ℕ) → slice_get xs k ≡ None → drop k xs ≡ []
none_left [] zero none = refl
none_left [] (suc k) none = refl
none_left (x ∷ xs) zero none = cc
none_left (x ∷ xs) (suc k) none = none_left xs k none

-- What stands at a place is the first of what is left from there on.
pub left_from : {A : Type 0} (xs : List A) (k : ℕ) (x : A) → slice_get xs k ≡ Some x → drop k xs ≡ x ∷ drop (suc k) xs
left_from [] zero x is = cc
left_from [] (suc k) x is = cc
left_from (y ∷ ys) zero x is = ap (λ o. unwrap_or o y ∷ ys) is
left_from (y ∷ ys) (suc k) x is = left_from ys k x is

-- The pair at a place, added behind those that are older.
pub pair_added : (before old new : Kept) (ring : List (ℕ × Code)) (place counter : ℕ) (code : Code)
    → slice_get ring place ≡ Some (counter, code) → Adds before old (pair_bytes (drop (place + 1) ring))
    → Adds old new (counter ∷ byte_of code ∷ []) → Adds before new (pair_bytes (drop place ring))
pair_added before old new ring place counter code is older adds = λ whole.
    let all = adds_then before old new (pair_bytes (drop (place + 1) ring)) (counter ∷ byte_of code ∷ []) older adds
    whole in
    let next : place + 1 ≡ suc place = omega arith in
    let bytes : pair_bytes (drop (place + 1) ring) ++ counter ∷ byte_of code ∷ [] ≡ pair_bytes (drop place ring) =
    ap (λ k. pair_bytes (drop k ring) ++ counter ∷ byte_of code ∷ []) next
    ∙ ap pair_bytes (sym (left_from ring place (counter, code) is)) in
    (all.0, all.1 ∙ ap (λ b. before.bytes ++ b) bytes)
