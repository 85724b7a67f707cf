-- No byte from FF on stands for a character, and no character stands twice.
use Rattle.std.proofs.Common.{◌≡◌, ℕ, ◌+◌, ◌-◌, ◌<◌, ◌≤◌, ◌==◌, ◌⊎◌, List, ◌++◌, length, map}
use Rattle.std.proofs.Common.{Option, Some, None, refl, sym, ap, subst, ◌∙◌, inl, inr, arith, get_or}
use Rattle.std.specs.List.{range_with_len, position, list_all}
use Rattle.std.specs.Prelude.{nat_lt, true}
use Rattle.std.proofs.lemmas.List.Quantifiers.{position-Some}
use Rattle.std.proofs.lemmas.List.Elements.{All-get_or}
use Rattle.std.proofs.lemmas.List.Sums.{AllPass-from_list_all}
use Rattle.std.proofs.lemmas.Bool.{eqb-true, ltb-true}
use Rattle.std.specs.Option.{option_map_or}
use Rattle.std.proofs.lemmas.Option.{slice_get_past}
use Rattle.std.proofs.lemmas.List.FromFn.{get_or-map-range_with_len}
use Rattle.std.proofs.lemmas.Bool.{cases_lt}
use Rattle.std.proofs.lemmas.Bool.Decides.{nat_tests}
use Rattle.std.proofs.Math.Nat.{le_antisymm}
use Rattle.rds_text.specs.BasicSet.{upper, character_of}

upper_length : length upper ≡ 127
unfolding upper
upper_length = refl

pub none_from_ff : (byte : ℕ) → 0xFF ≤ byte → character_of byte ≡ None
unfolding character_of
none_from_ff byte past = grind (arith, nat_tests, slice_get_past upper (byte - 0x80) (omega (arith, upper_length)))

-- Bytes that no list reaches stand for no character.
none_below : (byte : ℕ) → byte < 0x20 → character_of byte ≡ None
unfolding character_of
none_below byte below = grind (arith, nat_tests)

none_between : character_of 0x7F ≡ None
unfolding character_of
none_between = refl

-- A byte's character as a number, 0 where it has none.
abbrev number_of : ℕ → ℕ
number_of byte = option_map_or (λ c. c) (character_of byte) 0

-- The characters of 00 to FE.
abbrev numbers : List ℕ
numbers = map number_of (range_with_len 0 0x80) ++ upper

-- The first place at which a number stands.
abbrev pub place_in : List ℕ → ℕ → Option ℕ
place_in all number = position (λ c. c == number) all

-- Where the characters of so many bytes, from one on, stand first.
abbrev places : List ℕ → ℕ → ℕ → List (Option ℕ)
places all from count = map (λ byte. place_in all (number_of byte)) (range_with_len from count)

from_20 : places numbers 0x20 0x30 ≡ map (λ byte. Some byte) (range_with_len 0x20 0x30)
unfolding character_of upper
from_20 = refl

from_50 : places numbers 0x50 0x2F ≡ map (λ byte. Some byte) (range_with_len 0x50 0x2F)
unfolding character_of upper
from_50 = refl

from_80 : places numbers 0x80 0x20 ≡ map (λ byte. Some byte) (range_with_len 0x80 0x20)
unfolding character_of upper
from_80 = refl

from_a0 : places numbers 0xA0 0x20 ≡ map (λ byte. Some byte) (range_with_len 0xA0 0x20)
unfolding character_of upper
from_a0 = refl

from_c0 : places numbers 0xC0 0x20 ≡ map (λ byte. Some byte) (range_with_len 0xC0 0x20)
unfolding character_of upper
from_c0 = refl

from_e0 : places numbers 0xE0 0x1F ≡ map (λ byte. Some byte) (range_with_len 0xE0 0x1F)
unfolding character_of upper
from_e0 = refl

-- In such a list of bytes a byte's character stands first at the byte.
in_list : (all : List ℕ) (from count byte i : ℕ) → places all from count ≡ map (λ b. Some b) (range_with_len from count)
    → i < count → from + i ≡ byte → place_in all (number_of byte) ≡ Some byte
in_list all from count byte i same within at =
    sym (get_or-map-range_with_len (λ b. place_in all (number_of b)) from count i byte None within at)
    ∙ ap (λ (l : List (Option ℕ)). get_or l i None) same
    ∙ get_or-map-range_with_len (λ b. Some b) from count i byte None within at

-- A byte stands for its character at the first place of it.
at_first : (byte character : ℕ) → character_of byte ≡ Some character → place_in numbers character ≡ Some byte
at_first byte character is =
    let number : number_of byte ≡ character = ap (λ (o : Option ℕ). option_map_or (λ (c : ℕ). c) o 0) is in
    subst (λ n. place_in numbers n ≡ Some byte) number
    (first (cases_lt byte 0x20) (cases_lt byte 0x50) (cases_lt byte 0x7F)
    (cases_lt byte 0x80) (cases_lt byte 0xA0) (cases_lt byte 0xC0) (cases_lt byte 0xE0) (cases_lt byte 0xFF))
  where
    no : character_of byte ≡ None → ⊥
    no none = cc (none, is)

    found : (from count : ℕ) → places numbers from count ≡ map (λ b. Some b) (range_with_len from count) → from ≤ byte
        → byte < from + count → place_in numbers (number_of byte) ≡ Some byte
    found from count same least most = in_list numbers from count byte (byte - from) same (omega arith) (omega arith)

    first : (byte < 0x20) ⊎ (0x20 ≤ byte) → (byte < 0x50) ⊎ (0x50 ≤ byte) → (byte < 0x7F) ⊎ (0x7F ≤ byte)
        → (byte < 0x80) ⊎ (0x80 ≤ byte) → (byte < 0xA0) ⊎ (0xA0 ≤ byte) → (byte < 0xC0) ⊎ (0xC0 ≤ byte)
        → (byte < 0xE0) ⊎ (0xE0 ≤ byte) → (byte < 0xFF) ⊎ (0xFF ≤ byte)
        → place_in numbers (number_of byte) ≡ Some byte
    first (inl below) _ _ _ _ _ _ _ = absurd (no (none_below byte below))
    first (inr a) (inl b) _ _ _ _ _ _ = found 0x20 0x30 from_20 a (omega arith)
    first _ (inr a) (inl b) _ _ _ _ _ = found 0x50 0x2F from_50 a (omega arith)
    first _ _ (inr a) (inl b) _ _ _ _ = absurd (no (ap character_of (le_antisymm (omega arith) a) ∙ none_between))
    first _ _ _ (inr a) (inl b) _ _ _ = found 0x80 0x20 from_80 a (omega arith)
    first _ _ _ _ (inr a) (inl b) _ _ = found 0xA0 0x20 from_a0 a (omega arith)
    first _ _ _ _ _ (inr a) (inl b) _ = found 0xC0 0x20 from_c0 a (omega arith)
    first _ _ _ _ _ _ (inr a) (inl b) = found 0xE0 0x1F from_e0 a (omega arith)
    first _ _ _ _ _ _ _ (inr past) = absurd (no (none_from_ff byte past))

-- Each character's number is below this.
small_numbers : list_all (λ c. nat_lt c 0xD800) numbers ≡ true
unfolding character_of upper
small_numbers = refl

-- A character of the set is no surrogate and none beyond Unicode.
pub small : (byte character : ℕ) → character_of byte ≡ Some character → character < 0xD800
small byte character is =
    let found = position-Some (λ c. c == character) numbers byte 0 (at_first byte character is) in
    let here : get_or numbers byte 0 ≡ character = eqb-true _ _ found.1 in
    let below : nat_lt (get_or numbers byte 0) 0xD800 ≡ true =
    All-get_or (λ c. nat_lt c 0xD800 ≡ true) numbers byte 0 found.0
    (AllPass-from_list_all (λ c. nat_lt c 0xD800) numbers small_numbers) in
    subst (λ c. c < 0xD800) here (ltb-true _ _ below)

pub one_byte : (a b character : ℕ) → character_of a ≡ Some character → character_of b ≡ Some character → a ≡ b
one_byte a b character is_a is_b =
    let same : Some a ≡ Some b = sym (at_first a character is_a) ∙ at_first b character is_b in
    cc same
