-- What words say of a byte, computed for each.
use Rattle.std.proofs.Common.{◌≡◌, ◌⊎◌, ℕ, ◌+◌, ◌*◌, ◌/◌, ◌%◌, ◌<◌, ◌≤◌, ◌==◌, ◌&&◌, Bool, true, false, cond, List, []}
use Rattle.std.proofs.Common.{◌∷◌, ◌++◌}
use Rattle.std.proofs.Common.{map, codes, get_or, Option, Some, None, refl, sym, ap, ◌∙◌, arith, inl, inr}
use Rattle.std.proofs.Common.{if◌then◌else◌}
use Rattle.std.specs.Prelude.{decimal, nat_lt, nat_le, flat_map}
use Rattle.std.specs.List.{range_with_len}
use Rattle.std.specs.Fmt.{digits}
use Rattle.std.proofs.lemmas.List.FromFn.{get_or-map-range_with_len}
use Rattle.std.proofs.lemmas.Bool.{and_parts, leb-true, eqb-true}
use Rattle.uecp_text.specs.Words.{decimal_in, decimal_value}
use Rattle.phrase_tokens.specs.Tokens.{Word}
use Rattle.uecp_phrases.specs.Phrases.{IsGroupType, Choice, Adds, Stays, Times, Choices, AreMade, Make}
use Rattle.uecp_phrases.specs.Phrases.{choice_tokens, no_choice, head_of}
use Rattle.uecp_phrases.specs.Written.{is_named_head, is_named_group, choices_tokens}

-- Two functions that agree on a list of the first numbers agree at each.
pub at_each : {A : Type 0} (f g : ℕ → A) (default : A) (count i : ℕ)
    → map f (range_with_len 0 count) ≡ map g (range_with_len 0 count) → i < count → f i ≡ g i
at_each {A} f g default count i same within =
    sym (get_or-map-range_with_len f 0 count i i default within (omega arith))
    ∙ ap (λ (l : List A). get_or l i default) same
    ∙ get_or-map-range_with_len g 0 count i i default within (omega arith)

-- ---- Decimal digits.

abbrev read : (most : ℕ) → ℕ → Option ℕ
read most n = decimal_in most (decimal n)

sets : map (read 0xFD) (range_with_len 0 0xFE) ≡ map (λ n. Some n) (range_with_len 0 0xFE)
unfolding decimal_in decimal_value digits
sets = refl

types : map (read 31) (range_with_len 0 32) ≡ map (λ n. Some n) (range_with_len 0 32)
unfolding decimal_in decimal_value digits
types = refl

nibbles : map (read 15) (range_with_len 0 16) ≡ map (λ n. Some n) (range_with_len 0 16)
unfolding decimal_in decimal_value digits
nibbles = refl

pub set_number : (n : ℕ) → n < 0xFE → decimal_in 0xFD (decimal n) ≡ Some n
set_number n h = at_each (read 0xFD) (λ n. Some n) None 0xFE n sets h

pub type_number : (n : ℕ) → n < 32 → decimal_in 31 (decimal n) ≡ Some n
type_number n h = at_each (read 31) (λ n. Some n) None 32 n types h

pub nibble_number : (n : ℕ) → n < 16 → decimal_in 15 (decimal n) ≡ Some n
nibble_number n h = at_each (read 15) (λ n. Some n) None 16 n nibbles h

-- ---- The choices behind a text.

abbrev pub made_of : (adds stays unsaid : Bool) → ℕ → Choices
made_of a s u n = record { adds = a; turns = if s then Some false else None; times = if u then None else Some n }

abbrev choices_of : (adds stays unsaid : Bool) → ℕ → List Choice
choices_of a s u n =
    (if a then Adds ∷ [] else []) ++ ((if s then Stays ∷ [] else []) ++ (if u then [] else Times (decimal n) ∷ []))

tokens_made : (a s u : Bool) (n : ℕ) →
    (if a then Word (codes "add") ∷ [] else []) ++ ((if s then Word (codes "same") ∷ [] else [])
    ++ (if u then [] else Word (codes "times") ∷ Word (decimal n) ∷ []))
    ≡ flat_map choice_tokens (choices_of a s u n)
tokens_made true true true n = refl
tokens_made true true false n = refl
tokens_made true false true n = refl
tokens_made true false false n = refl
tokens_made false true true n = refl
tokens_made false true false n = refl
tokens_made false false true n = refl
tokens_made false false false n = refl

are_made : (a s u : Bool) (n : ℕ) → decimal_in 15 (decimal n) ≡ Some n
    → AreMade no_choice (choices_of a s u n) (made_of a s u n)
are_made true true true n h = (refl, (refl, refl))
are_made true true false n h = (refl, (refl, (refl, (n, h, refl))))
are_made true false true n h = (refl, refl)
are_made true false false n h = (refl, (refl, (n, h, refl)))
are_made false true true n h = (refl, refl)
are_made false true false n h = (refl, (refl, (n, h, refl)))
are_made false false true n h = refl
are_made false false false n h = (refl, (n, h, refl))

abbrev pub made_in : ℕ → Choices
made_in head = made_of (head / 0x40 % 2 == 1) (head % 2 == 0) (head / 2 % 16 == 0) (head / 2 % 16)

pub choices_made : (head : ℕ) → Make no_choice (choices_tokens head) (made_in head)
choices_made head =
    let n = nibble_number (head / 2 % 16) (omega arith) in (
      choices_of (head / 0x40 % 2 == 1) (head % 2 == 0) (head / 2 % 16 == 0) (head / 2 % 16),
      tokens_made (head / 0x40 % 2 == 1) (head % 2 == 0) (head / 2 % 16 == 0) (head / 2 % 16),
      are_made (head / 0x40 % 2 == 1) (head % 2 == 0) (head / 2 % 16 == 0) (head / 2 % 16) n,
    )

heads : map (λ h. if is_named_head h then head_of (made_in h) else h) (range_with_len 0 0x100)
    ≡ map (λ h. h) (range_with_len 0 0x100)
heads = refl

pub head_made : (head : ℕ) → head < 0x100 → is_named_head head ≡ true → head ≡ head_of (made_in head)
head_made head low named =
    sym (at_each (λ h. if is_named_head h then head_of (made_in h) else h) (λ h. h) 0 0x100 head heads low)
    ∙ ap (λ b. cond b (head_of (made_in head)) head) named

-- ---- Groups.

pub type_said : (kind : ℕ) → kind ≤ 0x1F
    → IsGroupType (decimal (kind / 2) ++ (if kind % 2 == 0 then codes "A" else codes "B")) kind
type_said kind within = (
  decimal (kind / 2),
  kind / 2,
  nibble_number (kind / 2) (omega arith),
  by (kind % 2 == 0) refl,
)
  where
    by : (b : Bool) → (kind % 2 == 0) ≡ b →
        (((decimal (kind / 2) ++ (if b then codes "A" else codes "B")) ≡ decimal (kind / 2) ++ codes "A")
        × (kind ≡ 2 * (kind / 2)))
        ⊎ (((decimal (kind / 2) ++ (if b then codes "A" else codes "B")) ≡ decimal (kind / 2) ++ codes "B")
        × (kind ≡ 2 * (kind / 2) + 1))
    by true h = inl (refl, let e = eqb-true _ _ h in omega arith)
    by false h = inr (refl, grind arith)

abbrev is_named_mode : ℕ → Bool
is_named_mode mode = nat_lt mode 0x80 && mode / 0x20 % 2 == 0

modes : map (λ m. if is_named_mode m then m % 0x20 + (if m / 0x40 == 1 then 0x40 else 0x00) else m)
    (range_with_len 0 0x100)
    ≡ map (λ m. m) (range_with_len 0 0x100)
modes = refl

pub mode_said : (mode : ℕ) → mode < 0x100 → is_named_mode mode ≡ true
    → mode ≡ mode % 0x20 + (if mode / 0x40 == 1 then 0x40 else 0x00)
mode_said mode low named =
    sym (at_each (λ m. if is_named_mode m then m % 0x20 + (if m / 0x40 == 1 then 0x40 else 0x00) else m) (λ m. m) 0
    0x100 mode modes low)
    ∙ ap (λ b. cond b (mode % 0x20 + (if mode / 0x40 == 1 then 0x40 else 0x00)) mode) named

pub kind_said : (kind mode : ℕ) → is_named_group kind mode ≡ true → kind ≤ 0x1F
kind_said kind mode named = leb-true kind 0x1F (and_parts (nat_le kind 0x1F) (is_named_mode mode) named).0

pub mode_named : (kind mode : ℕ) → is_named_group kind mode ≡ true → is_named_mode mode ≡ true
mode_named kind mode named = (and_parts (nat_le kind 0x1F) (is_named_mode mode) named).1
