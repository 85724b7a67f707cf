-- What the lines of some bytes are, by where their line feeds stand.
use Rattle.std.proofs.Common.{◌≡◌, ◌≢◌, ℕ, ◌+◌, ◌<◌, ◌==◌, true, false, cond, List, [], ◌∷◌, ◌++◌}
use Rattle.std.proofs.Common.{length}
use Rattle.std.proofs.Common.{take, get_or, refl, ◌∙◌, ap, sym, subst, arith, inl, inr, length-append, append_assoc}
use Rattle.std.proofs.Common.{length-take-le, get_or-take, drop, take-append-drop}
use Rattle.std.specs.List.{onto_first}
use Rattle.std.proofs.lemmas.List.{take_more}
use Rattle.std.proofs.lemmas.Bool.{cases_Bool, eqb-true}
use Rattle.std.proofs.lemmas.List.Elements.{All-nil, All-cons, All-head, All-tail, All-from_get_or}
use Rattle.memchr.specs.Find.{is_byte, Passes, Nowhere, NoneBefore}
use Rattle.uecp_text.specs.Input.{lines_of}
use Rattle.line_feed.specs.Lines.{HasEnd, HasNoEnd}
use Rattle.line_feed.specs.Reading.{HasLine}
use Rattle.line_feed.specs.Parts.{EndsFirst}

abbrev is_other : ℕ → Type 0
is_other byte = byte ≢ 0x0A

lines_of-end : (byte : ℕ) (rest : List ℕ) → byte == 0x0A ≡ true → lines_of (byte ∷ rest) ≡ (byte ∷ []) ∷ lines_of rest
unfolding lines_of
lines_of-end byte rest h = ap (λ t. cond t ((byte ∷ []) ∷ lines_of rest) (onto_first byte (lines_of rest))) h

lines_of-more : (byte : ℕ) (rest : List ℕ) → byte == 0x0A ≡ false
    → lines_of (byte ∷ rest) ≡ onto_first byte (lines_of rest)
unfolding lines_of
lines_of-more byte rest h = ap (λ t. cond t ((byte ∷ []) ∷ lines_of rest) (onto_first byte (lines_of rest))) h

pub lines_of-nil : lines_of [] ≡ []
unfolding lines_of
lines_of-nil = refl

no_end_byte : (byte : ℕ) → byte ≢ 0x0A → byte == 0x0A ≡ false
no_end_byte byte h =
    elim (cases_Bool (byte == 0x0A)) [ inl is_end ↦ absurd (h (eqb-true byte 0x0A is_end)) | inr other ↦ other ]

-- bytes with no line feed, and then one, are the first line
pub lines_of-line : (text rest : List ℕ) → HasNoEnd text
    → lines_of (text ++ 0x0A ∷ rest) ≡ (text ++ 0x0A ∷ []) ∷ lines_of rest
lines_of-line [] rest h = lines_of-end 0x0A rest refl
lines_of-line (byte ∷ text) rest h =
    lines_of-more byte (text ++ 0x0A ∷ rest) (no_end_byte byte (All-head is_other byte text h))
    ∙ ap (onto_first byte) (lines_of-line text rest (All-tail is_other byte text h))

-- bytes with no line feed are one line, if there are any
pub lines_of-last : (text : List ℕ) → 0 < length text → HasNoEnd text → lines_of text ≡ text ∷ []
lines_of-last [] some h = absurd (omega (arith, some))
lines_of-last (byte ∷ []) some h =
    lines_of-more byte [] (no_end_byte byte (All-head is_other byte [] h)) ∙ ap (onto_first byte) lines_of-nil
lines_of-last (byte ∷ next ∷ text) some h =
    lines_of-more byte (next ∷ text) (no_end_byte byte (All-head is_other byte (next ∷ text) h))
    ∙ ap (onto_first byte) (lines_of-last (next ∷ text) (omega arith) (All-tail is_other byte (next ∷ text) h))

-- ---- one line that a line feed ends
has_byte : {P : Type 0} (text : List ℕ) → text ++ 0x0A ∷ [] ≡ [] → P
has_byte text h =
    absurd (let n = length-append text (0x0A ∷ []) in let e = ap length h in let z : length text + 1 ≡ 0 = sym n ∙ e in
    omega (arith, z))

onto_one : (byte : ℕ) (lines : List (List ℕ)) (line : List ℕ) → (line ≡ [] → ⊥)
    → onto_first byte lines ≡ (byte ∷ line) ∷ [] → lines ≡ line ∷ []
onto_one byte [] line some h = absurd (some (cc))
onto_one byte (first ∷ others) line some h = cc

no_end_within : (text : List ℕ) → lines_of (text ++ 0x0A ∷ []) ≡ (text ++ 0x0A ∷ []) ∷ [] → HasNoEnd text
no_end_within [] h = All-nil is_other
no_end_within (byte ∷ text) h =
    elim (cases_Bool (byte == 0x0A)) [
      | inl is_end ↦
          let two = sym (lines_of-end byte (text ++ 0x0A ∷ []) is_end) ∙ h in
          let none : text ++ 0x0A ∷ [] ≡ [] = cc in
          has_byte text none
      | inr other ↦
          let other_byte : byte ≢ 0x0A = λ same. let t : byte == 0x0A ≡ true = ap (λ b. b == 0x0A) same in cc in
          let one = onto_one byte (lines_of (text ++ 0x0A ∷ [])) (text ++ 0x0A ∷ []) (has_byte text)
          (sym (lines_of-more byte (text ++ 0x0A ∷ []) other) ∙ h) in
          All-cons is_other byte text other_byte (no_end_within text one)
    ]

-- the lines of one line that a line feed ends, and of what follows it
pub lines_of-then : (line rest : List ℕ) → lines_of line ≡ line ∷ [] → HasEnd line
    → lines_of (line ++ rest) ≡ line ∷ lines_of rest
lines_of-then line rest one (text, ends) =
    let no_end = no_end_within text (ap lines_of (sym ends) ∙ one ∙ ap (λ l. l ∷ []) ends) in
    ap (λ l. lines_of (l ++ rest)) ends ∙ ap lines_of (append_assoc text (0x0A ∷ []) rest)
    ∙ lines_of-line text rest no_end ∙ ap (λ l. l ∷ lines_of rest) (sym ends)

-- ---- by what `memchr` answers
no_end_before : (bytes : List ℕ) (place : ℕ) → Nowhere (Passes (is_byte 0x0A) bytes) 0 place → (k : ℕ) → k < place
    → get_or bytes k 0 ≢ 0x0A
no_end_before bytes place nowhere k below same = nowhere k (omega arith) below (ap (λ b. b == 0x0A) same)

pub no_end_at_all : (bytes : List ℕ) → Nowhere (Passes (is_byte 0x0A) bytes) 0 (length bytes) → HasNoEnd bytes
no_end_at_all bytes nowhere = All-from_get_or is_other bytes 0 (no_end_before bytes (length bytes) nowhere)

pub first_end : (bytes : List ℕ) (place : ℕ) → NoneBefore (Passes (is_byte 0x0A) bytes) 0 (length bytes) place
    → Passes (is_byte 0x0A) bytes place → EndsFirst bytes (place + 1)
first_end bytes place first at =
    let within : place < length bytes = first.high in
    let long : length (take place bytes) ≡ place = length-take-le place bytes (omega arith) in
    record {
      text = take place bytes;
      no_end = All-from_get_or is_other (take place bytes) 0 (λ k below.
          let under : k < place = omega (arith, long, below) in
          subst (λ b. b ≢ 0x0A) (sym (get_or-take place bytes k 0 under))
          (no_end_before bytes place first.before k under));
      front = take_more bytes place 0 within ∙ ap (λ b. take place bytes ++ b ∷ []) (eqb-true _ _ at);
      within = omega arith;
    }

-- up to and with the first line feed there is a line
pub has_line : (bytes : List ℕ) (count : ℕ) → EndsFirst bytes count → HasLine bytes
has_line bytes count first = (
  first.text,
  drop count bytes,
  sym (take-append-drop count bytes) ∙ ap (λ l. l ++ drop count bytes) first.front
      ∙ append_assoc first.text (0x0A ∷ []) (drop count bytes),
)

no_line_in : (text rest : List ℕ) → HasNoEnd (text ++ 0x0A ∷ rest) → ⊥
no_line_in [] rest none = All-head is_other 0x0A rest none refl
no_line_in (byte ∷ text) rest none = no_line_in text rest (All-tail is_other byte (text ++ 0x0A ∷ rest) none)

-- where there is no line feed there is none
pub no_line : (bytes : List ℕ) → HasNoEnd bytes → HasLine bytes → ⊥
no_line bytes none (text, rest, is) = no_line_in text rest (subst HasNoEnd is none)
