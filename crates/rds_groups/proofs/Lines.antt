-- A text is shown place by place.
use Rattle.std.proofs.Common.{◌≡◌, ◌≢◌, ℕ, zero, suc, ◌+◌, ◌-◌, ◌<◌, List, [], ◌∷◌, ◌++◌, Option, Some, None, refl, ap}
use Rattle.std.proofs.Common.{sym, ◌∙◌, arith, append-nil, append_assoc, if◌then◌else◌}
use Rattle.std.specs.Prelude.{replicate, slice_index_or}
use Rattle.std.specs.Option.{option_map}
use Rattle.std.proofs.Math.Path.{fun_ext}
use Rattle.std.proofs.lemmas.Bool.{ne_eqb}
use Rattle.rds_groups.specs.Shown.{Receiver, Heard, nothing, line, before, is_return, text_shown}
use Rattle.rds_groups.specs.View.{heard_in}

none_in : (n p : ℕ) → let no_word : Option ℕ = None in slice_index_or (replicate n no_word) p no_word ≡ no_word
none_in zero p = refl
none_in (suc n) zero = refl
none_in (suc n) (suc p) = none_in n p

pub nothing_in : (n : ℕ) → heard_in (replicate n None) ≡ nothing
nothing_in n = fun_ext (λ p. none_in n p)

-- what is shown is the characters before a place, and then what the places from it on show
pub record IsSoFar (whole : Option (List ℕ)) (shown : List ℕ) (count place : ℕ) (heard : Heard) : Type 0 where
  pub so_far : whole ≡ option_map (λ rest. shown ++ rest) (line (count - place) place heard)

pub begins : (r : Receiver) (count : ℕ) (shown : List ℕ) → count ≡ (if r.is_short then 32 else 64) → shown ≡ []
    → IsSoFar (text_shown r) shown count 0 r.text
unfolding text_shown
begins r count shown e none = let all : count - 0 ≡ count = omega arith in record {
  so_far =
      ap (λ n. line n 0 r.text) (sym e) ∙ same (line count 0 r.text)
      ∙ ap (λ (xs : List ℕ). option_map (λ rest. xs ++ rest) (line count 0 r.text)) (sym none)
      ∙ ap (λ n. option_map (λ rest. shown ++ rest) (line n 0 r.text)) (sym all);
}
  where
    same : (o : Option (List ℕ)) → o ≡ option_map (λ rest. [] ++ rest) o
    same None = refl
    same (Some rest) = refl

one_more : (count place : ℕ) → place < count → count - place ≡ suc (count - (place + 1))
one_more count place h = omega arith

at_place : (o : Option ℕ) (count place : ℕ) (heard : Heard) → place < count → heard place ≡ o
    → line (count - place) place heard ≡ (if is_return o then Some [] else before o
    (line (count - (place + 1)) (place + 1) heard))
at_place o count place heard h e =
    ap (λ n. line n place heard) (one_more count place h)
    ∙ ap (λ (x : Option ℕ). if is_return x then Some [] else before x (line (count - (place + 1)) (place + 1) heard)) e

pub at_none : (whole : Option (List ℕ)) (shown : List ℕ) (count place : ℕ) (heard : Heard) → place < count
    → IsSoFar whole shown count place heard → heard place ≡ None → whole ≡ None
at_none whole shown count place heard h so e =
    so.so_far ∙ ap (option_map (λ rest. shown ++ rest)) (at_place None count place heard h e)

pub at_return : (whole : Option (List ℕ)) (shown : List ℕ) (count place character : ℕ) (heard : Heard) → place < count
    → IsSoFar whole shown count place heard → heard place ≡ Some character → character ≡ 0x0D → whole ≡ Some shown
at_return whole shown count place character heard h so e is =
    so.so_far ∙ ap (option_map (λ rest. shown ++ rest))
    (at_place (Some 0x0D) count place heard h (e ∙ ap (λ (n : ℕ). Some n) is))
    ∙ ap (λ (xs : List ℕ). Some xs) (append-nil shown)

pub at_other : (whole : Option (List ℕ)) (shown : List ℕ) (count place character : ℕ) (heard : Heard) → place < count
    → IsSoFar whole shown count place heard → heard place ≡ Some character → character ≢ 0x0D
    → IsSoFar whole (shown ++ character ∷ []) count (place + 1) heard
at_other whole shown count place character heard h so e other = record {
  so_far =
      so.so_far ∙ ap (option_map (λ rest. shown ++ rest)) (at_place (Some character) count place heard h e
      ∙ ap (λ b. if b then Some [] else before (Some character) (line (count - (place + 1)) (place + 1) heard))
      (ne_eqb character 0x0D other))
      ∙ joined (line (count - (place + 1)) (place + 1) heard);
}
  where
    joined : (o : Option (List ℕ)) → option_map (λ rest. shown ++ rest) (before (Some character) o)
        ≡ option_map (λ rest. (shown ++ character ∷ []) ++ rest) o
    joined None = refl
    joined (Some rest) = ap (λ (xs : List ℕ). Some xs) (sym (append_assoc shown (character ∷ []) rest))

pub at_end : (whole : Option (List ℕ)) (shown : List ℕ) (count place : ℕ) (heard : Heard) → place ≡ count
    → IsSoFar whole shown count place heard → whole ≡ Some shown
at_end whole shown count place heard e so =
    let z : count - place ≡ 0 = omega arith in
    so.so_far ∙ ap (λ n. option_map (λ rest. shown ++ rest) (line n place heard)) z
    ∙ ap (λ (xs : List ℕ). Some xs) (append-nil shown)
