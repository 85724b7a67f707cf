-- The words of a text one after another, and its parts between dots.
use Rattle.std.proofs.Common.{◌≡◌, ◌≢◌, ℕ, zero, suc, ◌+◌, ◌-◌, ◌<◌, ◌≤◌, ◌==◌, Bool, false, not, cond, List, []}
use Rattle.std.proofs.Common.{◌∷◌, ◌++◌}
use Rattle.std.proofs.Common.{length, take, drop, get_or, filter, refl, sym, ap, ◌∙◌, subst, arith, inl, inr, add-one}
use Rattle.std.proofs.Common.{length-drop, length-take-le, get_or-take, take-append-drop, drop-cons}
use Rattle.std.proofs.Common.{length-append}
use Rattle.std.proofs.Math.Seq.{drop-append_seam}
use Rattle.std.specs.List.{All, slice_split}
use Rattle.std.proofs.lemmas.Bool.{eqb-true, eq-eqb, ne_eqb, cases_Bool}
use Rattle.std.proofs.lemmas.List.{take_all, drop_all}
use Rattle.std.proofs.lemmas.List.Elements.{All-from_get_or}
use Rattle.std.proofs.lemmas.List.Splits.{slice_split_none, slice_split_at}
use Rattle.memchr.specs.Find.{is_byte, Passes, Nowhere, NoneBefore}
use Rattle.uecp_text.specs.Words.{words}
use Rattle.bad_line.specs.Parts.{BeginsWord}

-- ---- Cut where `memchr` finds a byte.

-- a text up to a place, the byte there, and what follows it
around : (sought : ℕ) (text : List ℕ) (place : ℕ) → place < length text → Passes (is_byte sought) text place
    → text ≡ take place text ++ (sought ∷ drop (place + 1) text)
around sought text place within at =
    let at_place : drop place text ≡ get_or text place 0 ∷ drop (place + 1) text =
    rw add-one (drop-cons text place 0 within) in
    sym (take-append-drop place text)
    ∙ ap (λ l. take place text ++ l)
    (at_place ∙ ap (λ b. b ∷ drop (place + 1) text) (eqb-true (get_or text place 0) sought at))

-- nothing of a text is the byte, before the first place that has it
none_before : (sought : ℕ) (text : List ℕ) (place : ℕ)
    → NoneBefore (Passes (is_byte sought) text) 0 (length text) place
    → All (λ b. (b == sought) ≡ false) (take place text)
none_before sought text place first =
    let long : length (take place text) ≡ place = length-take-le place text (let h = first.high in omega arith) in
    All-from_get_or (λ b. (b == sought) ≡ false) (take place text) 0 (λ k below.
    let under : k < place = omega (arith, long, below) in
    subst (λ b. (b == sought) ≡ false) (sym (get_or-take place text k 0 under))
    (other_at sought text k (first.before k (omega arith) under)))
  where
    other_at : (sought : ℕ) (text : List ℕ) (k : ℕ) → (Passes (is_byte sought) text k → ⊥)
        → (get_or text k 0 == sought) ≡ false
    other_at sought text k other =
        elim (cases_Bool (get_or text k 0 == sought)) [ inl same ↦ absurd (other same) | inr differs ↦ differs ]

-- nothing of a text is the byte
none_at_all : (sought : ℕ) (text : List ℕ) → Nowhere (Passes (is_byte sought) text) 0 (length text)
    → All (λ b. (b == sought) ≡ false) text
none_at_all sought text nowhere =
    All-from_get_or (λ b. (b == sought) ≡ false) text 0 (λ k below.
    elim (cases_Bool (get_or text k 0 == sought)) [
      | inl same ↦ absurd (nowhere k (omega arith) below same)
      | inr differs ↦ differs
    ])

-- what is taken of the rest of a text is the rest
pub rest_of : (text : List ℕ) (n : ℕ) → take (length text - n) (drop n text) ≡ drop n text
rest_of text n = take_all (length text - n) (drop n text) (omega (arith, length-drop n text))

-- a text is cut at the first place of a byte
pub cut_first : (sought : ℕ) (text : List ℕ) (place : ℕ)
    → NoneBefore (Passes (is_byte sought) text) 0 (length text) place → Passes (is_byte sought) text place
    → slice_split (λ b. b == sought) text
    ≡ take place text ∷ slice_split (λ b. b == sought) (take (length text - (place + 1)) (drop (place + 1) text))
cut_first sought text place first at =
    ap (slice_split (λ b. b == sought)) (around sought text place first.high at)
    ∙ slice_split_at (λ b. b == sought) (take place text) sought (drop (place + 1) text)
    (none_before sought text place first) (eq-eqb sought sought refl)
    ∙ ap (λ rest. take place text ∷ slice_split (λ b. b == sought) rest) (sym (rest_of text (place + 1)))

-- a text without the byte is not cut
pub cut_nowhere : (sought : ℕ) (text : List ℕ) → Nowhere (Passes (is_byte sought) text) 0 (length text)
    → slice_split (λ b. b == sought) text ≡ text ∷ []
cut_nowhere sought text nowhere = slice_split_none (λ b. b == sought) text (none_at_all sought text nowhere)

-- ---- Words.

abbrev is_some_word : List ℕ → Bool
is_some_word w = not (length w == 0)

kept : (w : List ℕ) (ws : List (List ℕ)) → 0 < length w → filter is_some_word (w ∷ ws) ≡ w ∷ filter is_some_word ws
kept w ws h =
    ap (λ b. cond b (w ∷ filter is_some_word ws) (filter is_some_word ws))
    (ap not (ne_eqb (length w) 0 (λ e. omega arith)))

-- a text that begins with a word is no space at its front
no_space_first : (text : List ℕ) (place : ℕ) → BeginsWord text → Passes (is_byte 0x20) text place → 0 < place
no_space_first [] place begins at = absurd begins
no_space_first (b ∷ text) zero begins at = absurd (begins (eqb-true b 0x20 at))
no_space_first (b ∷ text) (suc place) begins at = omega arith

some_bytes : (text : List ℕ) → BeginsWord text → 0 < length text
some_bytes [] begins = absurd begins
some_bytes (b ∷ text) begins = omega arith

pub first_word_is : (text : List ℕ) (place : ℕ) → BeginsWord text
    → NoneBefore (Passes (is_byte 0x20) text) 0 (length text) place → Passes (is_byte 0x20) text place
    → words text ≡ take place text ∷ words (take (length text - (place + 1)) (drop (place + 1) text))
unfolding words
first_word_is text place begins first at =
    let some = no_space_first text place begins at in
    let long : length (take place text) ≡ place = length-take-le place text (let h = first.high in omega arith) in
    ap (filter is_some_word) (cut_first 0x20 text place first at)
    ∙ kept (take place text)
    (slice_split (λ b. b == 0x20) (take (length text - (place + 1)) (drop (place + 1) text))) (omega arith)

pub only_word_is : (text : List ℕ) → BeginsWord text → Nowhere (Passes (is_byte 0x20) text) 0 (length text)
    → words text ≡ text ∷ words []
unfolding words
only_word_is text begins nowhere =
    ap (filter is_some_word) (cut_nowhere 0x20 text nowhere) ∙ kept text [] (some_bytes text begins)

pub no_words : words [] ≡ []
unfolding words
no_words = refl

after_space : (rest : List ℕ) → words (0x20 ∷ rest) ≡ words rest
unfolding words
after_space rest = refl

-- a space before words
pub past_space : (text : List ℕ) (place : ℕ) → place < length text → get_or text place 0 ≡ 0x20
    → words (drop place text) ≡ words (drop (place + 1) text)
past_space text place within space =
    let at_place : drop place text ≡ get_or text place 0 ∷ drop (place + 1) text =
    rw add-one (drop-cons text place 0 within) in
    ap words at_place ∙ ap (λ b. words (b ∷ drop (place + 1) text)) space ∙ after_space (drop (place + 1) text)

-- at a byte that is no space a word begins
pub word_at : (text : List ℕ) (place : ℕ) → place < length text → get_or text place 0 ≢ 0x20
    → BeginsWord (take (length text - place) (drop place text))
word_at text place within other =
    let at_place : drop place text ≡ get_or text place 0 ∷ drop (place + 1) text =
    rw add-one (drop-cons text place 0 within) in
    subst BeginsWord (sym (rest_of text place ∙ at_place)) other

pub rest_words : (text : List ℕ) (place : ℕ) → words (take (length text - place) (drop place text))
    ≡ words (drop place text)
rest_words text place = ap words (rest_of text place)

pub words_at_end : (text : List ℕ) (place : ℕ) → length text ≤ place → words text ≡ words (drop place text)
    → words text ≡ []
words_at_end text place past same = same ∙ ap words (drop_all place text past) ∙ no_words

-- ---- A word that ends so.

-- what stands before its end
pub front_of : (end word : List ℕ) → take (length word - (length word - length end))
    (drop (length word - length end) word)
    ≡ end → word ≡ take (length word - length end) word ++ end
front_of end word same =
    sym (take-append-drop (length word - length end) word)
    ∙ ap (λ l. take (length word - length end) word ++ l) (sym (rest_of word (length word - length end)) ∙ same)

-- a word with another end does not end so
pub no_front : (end word : List ℕ)
    → (take (length word - (length word - length end)) (drop (length word - length end) word) ≡ end → ⊥)
    → (front : List ℕ) → word ≡ front ++ end → ⊥
no_front end word other front is = other (rest_of word (length word - length end) ∙ at_end)
  where
    long : length front ≡ length word - length end
    long = omega (arith, ap length is, length-append front end)

    at_end : drop (length word - length end) word ≡ end
    at_end = ap (λ n. drop n word) (sym long) ∙ ap (drop (length front)) is ∙ drop-append_seam front end
