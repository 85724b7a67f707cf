-- The first line of an input.
use Rattle.std.proofs.Common.{◌≡◌, ℕ, ◌+◌, ◌<◌, ◌==◌, suc, true, false, not, cond, get_or, List, [], ◌∷◌, length, take}
use Rattle.std.proofs.Common.{drop, refl, ◌∙◌, ap, sym, arith, inl, inr, Bool, ◌-◌, ◌≤◌, subst}
use Rattle.std.specs.List.{prefix_len, onto_first}
use Rattle.std.proofs.lemmas.Bool.{cases_Bool, eqb-true}
use Rattle.std.proofs.lemmas.List.Sums.{prefix_len_is}
use Rattle.memchr.specs.Find.{is_byte, Passes, Nowhere, NoneBefore}
use Rattle.memchr.proofs.lemmas.FindLemmas.{Nowhere-then, Nowhere-more}
use Rattle.std.proofs.lemmas.List.{get_or-drop, length-drop}
use Rattle.uecp_text.specs.Input.{lines_of}

-- the number of bytes before the first line feed
abbrev pub before_end : List ℕ → ℕ
before_end input = prefix_len (λ byte. not (byte == 0x0A)) input

lines_of-end : (byte : ℕ) (rest : List ℕ) → byte == 0x0A ≡ true → lines_of (byte ∷ rest) ≡ (byte ∷ []) ∷ lines_of rest
unfolding lines_of
lines_of-end byte rest h = ap (λ t. cond t ((byte ∷ []) ∷ lines_of rest) (onto_first byte (lines_of rest))) h

lines_of-more : (byte : ℕ) (rest : List ℕ) → byte == 0x0A ≡ false
    → lines_of (byte ∷ rest) ≡ onto_first byte (lines_of rest)
unfolding lines_of
lines_of-more byte rest h = ap (λ t. cond t ((byte ∷ []) ∷ lines_of rest) (onto_first byte (lines_of rest))) h

before_end-end : (byte : ℕ) (rest : List ℕ) → byte == 0x0A ≡ true → before_end (byte ∷ rest) ≡ 0
before_end-end byte rest h = ap (λ t. cond (not t) (1 + before_end rest) 0) h

before_end-more : (byte : ℕ) (rest : List ℕ) → byte == 0x0A ≡ false → before_end (byte ∷ rest) ≡ suc (before_end rest)
before_end-more byte rest h = ap (λ t. cond (not t) (1 + before_end rest) 0) h ∙ omega arith

pub line_up_to : (input : List ℕ) → before_end input < length input
    → lines_of input ≡ take (before_end input + 1) input ∷ lines_of (drop (before_end input + 1) input)
line_up_to [] h = absurd (omega (arith, h))
line_up_to (byte ∷ rest) h =
    elim (cases_Bool (byte == 0x0A)) [
      | inl is_end ↦ lines_of-end byte rest is_end ∙ ap
          (λ n. take (n + 1) (byte ∷ rest) ∷ lines_of (drop (n + 1) (byte ∷ rest)))
          (sym (before_end-end byte rest is_end))
      | inr other ↦ lines_of-more byte rest other
          ∙ ap (onto_first byte) (line_up_to rest (let e = before_end-more byte rest other in omega (arith, h, e)))
          ∙ ap (λ n. take n (byte ∷ rest) ∷ lines_of (drop n (byte ∷ rest)))
          (let e = before_end-more byte rest other in let r : suc (before_end rest + 1) ≡ before_end (byte ∷ rest)
          + 1 = omega (arith, e) in r)
    ]

lines_of-nil : lines_of [] ≡ []
unfolding lines_of
lines_of-nil = refl

alone : (byte : ℕ) (rest : List ℕ) → before_end rest ≡ length rest
    → onto_first byte (lines_of rest) ≡ (byte ∷ rest) ∷ []
alone byte [] h = ap (onto_first byte) lines_of-nil
alone byte (next ∷ rest) h =
    elim (cases_Bool (next == 0x0A)) [
      | inl is_end ↦ absurd (let e = before_end-end next rest is_end in omega (arith, h, e))
      | inr other ↦ ap (onto_first byte) (lines_of-more next rest other
          ∙ alone next rest (let e = before_end-more next rest other in omega (arith, h, e)))
    ]

pub line_alone : (input : List ℕ) → 0 < length input → before_end input ≡ length input
    → lines_of input ≡ input ∷ lines_of []
line_alone [] some h = absurd (omega (arith, some))
line_alone (byte ∷ rest) some h =
    elim (cases_Bool (byte == 0x0A)) [
      | inl is_end ↦ absurd (let e = before_end-end byte rest is_end in omega (arith, h, e))
      | inr other ↦ lines_of-more byte rest other ∙ alone byte rest
          (let e = before_end-more byte rest other in omega (arith, h, e))
          ∙ ap (λ more. (byte ∷ rest) ∷ more) (sym lines_of-nil)
    ]

-- ---- by what `memchr` answers
other_byte : (is_end : Bool) → (is_end ≡ true → ⊥) → not is_end ≡ true
other_byte true h = absurd (h refl)
other_byte false h = refl

-- none of the bytes before this place is a line feed
none_before : (input : List ℕ) (place : ℕ) → Nowhere (Passes (is_byte 0x0A) input) 0 place → (k : ℕ) → k < place
    → not (get_or input k 0 == 0x0A) ≡ true
none_before input place nowhere k below = other_byte (get_or input k 0 == 0x0A) (nowhere k (omega arith) below)

pub first_up_to : (input : List ℕ) (place : ℕ) → NoneBefore (Passes (is_byte 0x0A) input) 0 (length input) place
    → Passes (is_byte 0x0A) input place →
    lines_of input ≡ take (place + 1) input ∷ lines_of (drop (place + 1) input)
first_up_to input place first at =
    let there : before_end input ≡ place = prefix_len_is (λ byte. not (byte == 0x0A)) input place 0
    (let within = first.high in omega arith) (none_before input place first.before) (λ within. ap not at) in
    line_up_to input (rw there first.high) ∙ ap (λ n. take (n + 1) input ∷ lines_of (drop (n + 1) input)) there

pub first_alone : (input : List ℕ) → 0 < length input → Nowhere (Passes (is_byte 0x0A) input) 0 (length input)
    → lines_of input ≡ input ∷ lines_of []
first_alone input some nowhere =
    line_alone input some (prefix_len_is (λ byte. not (byte == 0x0A)) input (length input) 0 (omega arith)
    (none_before input (length input) nowhere) (λ within. absurd (omega arith)))

-- ---- an input with no byte left
pub empty_is : (xs : List ℕ) → true ≡ (length xs == 0) → xs ≡ []
empty_is [] h = refl
empty_is (x ∷ xs) h = absurd (let k : suc (length xs) ≡ 0 = eqb-true (suc (length xs)) 0 (sym h) in omega arith)

-- ---- a line feed near the start, or behind
-- behind this many bytes there is none at the places before this one of the rest
nowhere_behind : (input : List ℕ) (near count : ℕ) → Nowhere (Passes (is_byte 0x0A) (drop near input)) 0 count
    → Nowhere (Passes (is_byte 0x0A) input) near (near + count)
nowhere_behind input near count nowhere k low below there =
    let place : near + (k - near) ≡ k = omega arith in
    nowhere (k - near) (omega arith) (omega arith)
    (ap (λ byte. byte == 0x0A) (get_or-drop near input (k - near) 0)
    ∙ ap (λ i. get_or input i 0 == 0x0A) place ∙ there)

pub near_more : (input : List ℕ) (place : ℕ) → Nowhere (Passes (is_byte 0x0A) input) 0 place
    → (get_or input place 0 ≡ 0x0A → ⊥) → Nowhere (Passes (is_byte 0x0A) input) 0 (place + 1)
near_more input place nowhere other = Nowhere-more nowhere (λ there. other (eqb-true (get_or input place 0) 0x0A there))

pub near_found : (input : List ℕ) (place : ℕ) → Nowhere (Passes (is_byte 0x0A) input) 0 place → place < length input
    → get_or input place 0 ≡ 0x0A → NoneBefore (Passes (is_byte 0x0A) input) 0 (length input) place
    × Passes (is_byte 0x0A) input place
near_found input place nowhere within there = (
  record {
    low = omega arith;
    high = within;
    before = nowhere;
  },
  ap (λ byte. byte == 0x0A) there,
)

pub behind_found : (input rest : List ℕ) (near place : ℕ) → near ≤ length input → rest ≡ drop near input
    → Nowhere (Passes (is_byte 0x0A) input) 0 near
    → NoneBefore (Passes (is_byte 0x0A) rest) 0 (length rest) place × Passes (is_byte 0x0A) rest place
    → NoneBefore (Passes (is_byte 0x0A) input) 0 (length input) (near + place)
    × Passes (is_byte 0x0A) input (near + place)
behind_found input rest near place within is nowhere (first, at) = (
  record {
    low = omega arith;
    high = let high = first.high in omega (arith, high, length-drop near input, ap length is);
    before = Nowhere-then nowhere (nowhere_behind input near place
        (subst (λ r. Nowhere (Passes (is_byte 0x0A) r) 0 place) is first.before));
  },
  ap (λ byte. byte == 0x0A) (sym (get_or-drop near input place 0)) ∙ subst (λ r. Passes (is_byte 0x0A) r place) is at,
)

pub behind_none : (input rest : List ℕ) (near : ℕ) → near ≤ length input → rest ≡ drop near input
    → Nowhere (Passes (is_byte 0x0A) input) 0 near → Nowhere (Passes (is_byte 0x0A) rest) 0 (length rest)
    → Nowhere (Passes (is_byte 0x0A) input) 0 (length input)
behind_none input rest near within is nowhere none =
    let all : near + length rest ≡ length input = omega (arith, length-drop near input, ap length is) in
    Nowhere-then nowhere (subst (λ n. Nowhere (Passes (is_byte 0x0A) input) near n) all
    (nowhere_behind input near (length rest) (subst (λ r. Nowhere (Passes (is_byte 0x0A) r) 0 (length rest)) is none)))
