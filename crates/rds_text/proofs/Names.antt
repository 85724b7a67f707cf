-- From 32 on no number has a name, and no name is that of two numbers.
use Rattle.std.proofs.Common.{◌≡◌, ℕ, ◌+◌, ◌*◌, ◌<◌, ◌≤◌, ◌⊎◌, List, length, map, fold, Option, Some, None}
use Rattle.std.proofs.Common.{refl, sym, ap, ◌∙◌, inl, inr, arith, get_or, ◌-◌}
use Rattle.std.specs.Char.{to_ascii_lowercase}
use Rattle.std.specs.List.{range_with_len}
use Rattle.std.specs.Option.{option_map_or}
use Rattle.std.proofs.lemmas.Option.{slice_get_past}
use Rattle.std.proofs.lemmas.List.FromFn.{get_or-map-range_with_len}
use Rattle.std.proofs.Math.Nat.{le_antisymm}
use Rattle.std.proofs.lemmas.Bool.{cases_lt}
use Rattle.rds_text.specs.declared.programme_type.Region.{Region}
use Rattle.rds_text.specs.declared.programme_type.Region.TheVariants.{Europe, NorthAmerica}
use Rattle.rds_text.specs.ProgrammeTypes.{names, name_of, HasName}
use Rattle.rds_text.proofs.Inverse.{place_in}

names_length : (region : Region) → length (names region) ≡ 32
unfolding names
names_length Europe = refl
names_length NorthAmerica = refl

pub none_from_32 : (region : Region) (number : ℕ) → 32 ≤ number → name_of region number ≡ None
unfolding name_of
none_from_32 region number past = rw (slice_get_past (names region) number (omega (arith, names_length region))) refl

-- A text as one number, whatever the case of its letters.
abbrev key_of : List ℕ → ℕ
key_of text = fold (λ a c. a * 256 + c) 0 (map to_ascii_lowercase text)

-- The number of the text at a place; 0 where there is none.
abbrev key_at : Region → ℕ → ℕ
key_at region number = option_map_or key_of (name_of region number) 0

keys : Region → List ℕ
keys region = map (key_at region) (range_with_len 0 32)

-- Where the names from a number on stand first.
abbrev places : Region → List ℕ → List ℕ → List (Option ℕ)
places region all numbers = map (λ n. place_in all (key_at region n)) numbers

european : places Europe (keys Europe) (range_with_len 0 32) ≡ map (λ n. Some n) (range_with_len 0 32)
unfolding keys name_of names
european = refl

north_american : places NorthAmerica (keys NorthAmerica) (range_with_len 0 27) ≡ map (λ n. Some n) (range_with_len 0 27)
unfolding keys name_of names
north_american = refl

north_american_last : places NorthAmerica (keys NorthAmerica) (range_with_len 29 3)
    ≡ map (λ n. Some n) (range_with_len 29 3)
unfolding keys name_of names
north_american_last = refl

no_27 : name_of NorthAmerica 27 ≡ None
unfolding name_of names
no_27 = refl

no_28 : name_of NorthAmerica 28 ≡ None
unfolding name_of names
no_28 = refl

-- In such a stretch of numbers a name stands first at its number.
in_list : (region : Region) (all : List ℕ) (from count number i : ℕ)
    → places region all (range_with_len from count) ≡ map (λ n. Some n) (range_with_len from count) → i < count
    → from + i ≡ number → place_in all (key_at region number) ≡ Some number
in_list region all from count number i same within at =
    sym (get_or-map-range_with_len (λ n. place_in all (key_at region n)) from count i number None within at)
    ∙ ap (λ (l : List (Option ℕ)). get_or l i None) same
    ∙ get_or-map-range_with_len (λ n. Some n) from count i number None within at

-- A number that has a name is the first that has one with that key.
at_first : (region : Region) (number : ℕ) (name : List ℕ) → name_of region number ≡ Some name
    → place_in (keys region) (key_at region number) ≡ Some number
at_first region number name is =
    first region (cases_lt number 27) (cases_lt number 29) (cases_lt number 32) is
  where
    no : (r : Region) → name_of r number ≡ Some name → name_of r number ≡ None → ⊥
    no r some none = cc (none, some)

    found : (r : Region) (from count : ℕ)
        → places r (keys r) (range_with_len from count) ≡ map (λ n. Some n) (range_with_len from count) → from ≤ number
        → number < from + count → place_in (keys r) (key_at r number) ≡ Some number
    found r from count same least most =
        in_list r (keys r) from count number (number - from) same (omega arith) (omega arith)

    first : (r : Region) → (number < 27) ⊎ (27 ≤ number) → (number < 29) ⊎ (29 ≤ number)
        → (number < 32) ⊎ (32 ≤ number) → name_of r number ≡ Some name
        → place_in (keys r) (key_at r number) ≡ Some number
    first r _ _ (inr past) some = absurd (no r some (none_from_32 r number past))
    first Europe _ _ (inl b) some = found Europe 0 32 european (omega arith) b
    first NorthAmerica (inl b) _ (inl _) some = found NorthAmerica 0 27 north_american (omega arith) b
    first NorthAmerica (inr a) (inl b) (inl _) some = absurd (no NorthAmerica some (hole (cases_lt number 28)))
      where
        hole : (number < 28) ⊎ (28 ≤ number) → name_of NorthAmerica number ≡ None
        hole (inl c) = ap (name_of NorthAmerica) (le_antisymm (omega arith) a) ∙ no_27
        hole (inr c) = ap (name_of NorthAmerica) (le_antisymm (omega arith) c) ∙ no_28
    first NorthAmerica _ (inr a) (inl b) some = found NorthAmerica 29 3 north_american_last a (omega arith)

pub named_once : (region : Region) (a b : ℕ) (text : List ℕ) → HasName region a text → HasName region b text → a ≡ b
named_once region a b text has_a has_b =
    let key : (n : ℕ) (name : List ℕ) → name_of region n ≡ Some name
    → map to_ascii_lowercase name ≡ map to_ascii_lowercase text
    → key_at region n ≡ key_of text =
    λ n name is same. ap (λ (o : Option (List ℕ)). option_map_or key_of o 0) is
    ∙ ap (λ (l : List ℕ). fold (λ s c. s * 256 + c) 0 l) same in
    let same : Some a ≡ Some b =
    sym (at_first region a has_a.0 has_a.1)
    ∙ ap (place_in (keys region)) (key a has_a.0 has_a.1 has_a.2 ∙ sym (key b has_b.0 has_b.1 has_b.2))
    ∙ at_first region b has_b.0 has_b.1 in
    cc same
