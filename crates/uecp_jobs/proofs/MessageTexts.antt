-- What texts spell, line by line.
use lib.Pointwise.{pointwise}
use Rattle.std.proofs.Common.{◌≡◌, ◌≢◌, ℕ, ◌+◌, ◌<◌, ◌≤◌, ◌==◌, suc, nat_le, cond, false, List, [], ◌∷◌, length, codes}
use Rattle.std.proofs.Common.{Some, None, Result, Ok, Err, IsErr, refl, ◌∙◌, ap, sym, inl, inr, arith, le-leb, leb-true}
use Rattle.std.specs.Cmp.Lexicographic.{same_text}
use Rattle.std.proofs.lemmas.Bool.{cases_Bool}
use Rattle.uecp_text.specs.declared.text_fault.TextFault.{TextFault}
use Rattle.uecp_text.specs.declared.text_fault.TextFault.TheVariants.{NotHex, MessageTooLong}
use Rattle.uecp_text.specs.declared.run_fault.RunFault.TheVariants.{Text}
use Rattle.uecp_text.specs.Input.{under, numbered, said, lines_of}
use Rattle.uecp_text.specs.Words.{bytes_in}
use Rattle.uecp_jobs.specs.Messages.{message_of, spelled, before, messages_first, refused_at, refusal_in}

-- ---- one text

of_bytes : {E : Type 0} (r : Result (List ℕ) E) (bytes : List ℕ) → r ≡ Ok bytes → length bytes ≤ 255
    → message_of r ≡ Ok bytes
of_bytes r bytes is few = ap message_of is ∙ ap (λ b. cond b (Ok bytes) (Err MessageTooLong))
    (le-leb (length bytes) 255 few)

of_many : {E : Type 0} (r : Result (List ℕ) E) (bytes : List ℕ) → r ≡ Ok bytes → 255 < length bytes
    → message_of r ≡ Err MessageTooLong
of_many r bytes is many =
    let over : nat_le (length bytes) 255 ≡ false =
    elim (cases_Bool (nat_le (length bytes) 255)) [
      | inl holds ↦ absurd
          (let few = leb-true (length bytes) 255 holds in omega (arith, few, many))
      | inr fails ↦ fails
    ] in
    ap message_of is ∙ ap (λ b. cond b (Ok bytes) (Err MessageTooLong)) over

of_none : {E : Type 0} (r : Result (List ℕ) E) → IsErr r → message_of r ≡ Err NotHex
of_none (Ok bytes) is = absurd (cc)
of_none (Err fault) is = refl

other : (text : List ℕ) → text ≢ codes "-" → spelled text ≡ message_of (bytes_in text)
other text is_other = elim (cases_Bool (pointwise (λ a b. a == b) text (codes "-"))) [
  | inl same ↦ absurd (is_other (same_text text (codes "-") (sym same)))
  | inr differs ↦ ap (λ b. cond b (Ok []) (message_of (bytes_in text))) differs
]

pub dash_spelled : (text : List ℕ) → text ≡ codes "-" → spelled text ≡ Ok []
dash_spelled text is = ap spelled is

module _ (text : List ℕ) (is_other : text ≢ codes "-") where
  pub message_spelled : (bytes message : List ℕ) → bytes_in text ≡ Ok bytes → message ≡ bytes → length bytes ≤ 255
      → spelled text ≡ Ok message
  message_spelled bytes message is same few = other text is_other ∙ of_bytes (bytes_in text) bytes is few
      ∙ ap (λ m. Ok m) (sym same)

  pub long_refused : (bytes : List ℕ) → bytes_in text ≡ Ok bytes → 255 < length bytes
      → spelled text ≡ Err MessageTooLong
  long_refused bytes is many = other text is_other ∙ of_many (bytes_in text) bytes is many

  pub none_refused : IsErr (bytes_in text) → spelled text ≡ Err NotHex
  none_refused bad = other text is_other ∙ of_none (bytes_in text) bad

-- ---- the texts of an input, line by line

numbered-line : (number : ℕ) (line : List ℕ) (lines : List (List ℕ))
    → numbered number (line ∷ lines) ≡ under number (said line) (numbered (number + 1) lines)
unfolding numbered
numbered-line number line lines = refl

no_texts : (number : ℕ) → numbered number (lines_of []) ≡ []
unfolding lines_of numbered
no_texts number = refl

pub no_texts_left : (number : ℕ) (rest : List ℕ) → rest ≡ [] → numbered number (lines_of rest) ≡ []
no_texts_left number rest none = ap (λ r. numbered number (lines_of r)) none ∙ no_texts number

module _ (number : ℕ) (rest line more : List ℕ) (lines : lines_of rest ≡ line ∷ lines_of more) where
  texts_are : numbered number (lines_of rest) ≡ under number (said line) (numbered (number + 1) (lines_of more))
  texts_are = ap (numbered number) lines ∙ numbered-line number line (lines_of more)

  pub no_text : None ≡ said line → numbered number (lines_of rest) ≡ numbered (number + 1) (lines_of more)
  no_text says = texts_are ∙ ap (λ t. under number t (numbered (number + 1) (lines_of more))) (sym says)

  module _ (text : List ℕ) (says : Some text ≡ said line) where
    one_text : numbered number (lines_of rest) ≡ (number, text) ∷ numbered (number + 1) (lines_of more)
    one_text = texts_are ∙ ap (λ t. under number t (numbered (number + 1) (lines_of more))) (sym says)

    pub one_message : (message : List ℕ) → spelled text ≡ Ok message
        → messages_first (numbered number (lines_of rest)) ≡ message
        ∷ messages_first (numbered (number + 1) (lines_of more))
    one_message message is = ap messages_first one_text
        ∙ ap (λ r. before r (messages_first (numbered (number + 1) (lines_of more)))) is

    pub none_refused_yet : (message : List ℕ) → spelled text ≡ Ok message
        → refusal_in (numbered number (lines_of rest)) ≡ refusal_in (numbered (number + 1) (lines_of more))
    none_refused_yet message is = ap refusal_in one_text
        ∙ ap (λ r. refused_at number r (refusal_in (numbered (number + 1) (lines_of more)))) is

    pub no_message : (fault : TextFault) → spelled text ≡ Err fault
        → messages_first (numbered number (lines_of rest)) ≡ []
    no_message fault is = ap messages_first one_text
        ∙ ap (λ r. before r (messages_first (numbered (number + 1) (lines_of more)))) is

    pub refused_here : (fault : TextFault) → spelled text ≡ Err fault
        → refusal_in (numbered number (lines_of rest)) ≡ Some (Text number fault)
    refused_here fault is = ap refusal_in one_text ∙ ap
        (λ r. refused_at number r (refusal_in (numbered (number + 1) (lines_of more)))) is

-- ---- all texts

-- where no text is refused each brings a message
each_brings : (r : Result (List ℕ) TextFault) (number n : ℕ) (text : List ℕ) (texts : List (ℕ × List ℕ))
    → (refusal_in texts ≡ None → length (messages_first texts) ≡ length texts)
    → refused_at number r (refusal_in texts) ≡ None →
    length (before r (messages_first texts)) ≡ suc (length texts)
each_brings (Ok message) number n text texts later none = ap suc (later none)
each_brings (Err fault) number n text texts later none = absurd (let no : Some (Text number fault) ≡ None = none in cc)

pub all_bring : (texts : List (ℕ × List ℕ)) → refusal_in texts ≡ None → length (messages_first texts) ≡ length texts
all_bring [] none = refl
all_bring ((number, text) ∷ texts) none = each_brings (spelled text) number number text texts (all_bring texts) none
