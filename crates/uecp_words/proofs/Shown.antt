-- What is shown of elements and frames, word by word.
use Rattle.std.proofs.Common.{◌≡◌, ℕ, zero, suc, ◌/◌, ◌%◌, ◌<◌, ◌==◌, Bool, true, false, not, ◌&&◌, cond, List, [], ◌∷◌}
use Rattle.std.proofs.Common.{◌++◌, length, codes, filter, slice_index, Ok, refl, sym, ap, ◌∙◌, append_assoc, subst}
use Rattle.std.proofs.Common.{inl, inr, arith, lit<, if◌then◌else◌}
use Rattle.std.specs.List.{All, slice_split}
use Rattle.std.proofs.lemmas.Bool.{and_parts, ne_eqb}
use Rattle.std.proofs.lemmas.List.Elements.{All-cons, All-nil}
use Rattle.std.proofs.lemmas.List.Splits.{slice_split_none, slice_split_at}
use Rattle.hex.specs.Hex.{IsBytes, encode_upper, encode_with, upper_digits, decode_of, decode_sized}
use Rattle.hex.proofs.HexLemmas.{decode_of-encode_upper, decode_sized-twice, length-encode_with}
use Rattle.uecp_frame.specs.Frame.{high_first}
use Rattle.uecp_elements.specs.Grammar.{NoText, Text, Element, Pi, Ps, TaTp, Ms, Pty, Rt, Select, Group, Ack, spelling}
use Rattle.uecp_elements.specs.Grammar.{IsElement, AreBytes}
use Rattle.uecp_text.specs.Words.{words, IsByte, IsNumber, IsRow}
use Rattle.uecp_text.specs.Digits.{byte_word, number_word, row_word}
use Rattle.uecp_lines.specs.Lines.{element_words}
use Rattle.uecp_words.specs.ScriptWords.{Names, Says, Begins}

-- ---- Words with a space between.

abbrev is_space : ℕ → Bool
is_space b = b == 32

-- a word: some bytes and no space
pub record IsWord (w : List ℕ) : Type 0 where
  pub some : 0 < length w
  pub whole : All (λ b. is_space b ≡ false) w

abbrev pub AreWords : List (List ℕ) → Type 0
AreWords [] = Unit {0}
AreWords (w ∷ ws) = IsWord w × AreWords ws

-- the words with a space between, as they are added one by one
abbrev pub spaced : List ℕ → List (List ℕ) → List ℕ
spaced w [] = w
spaced w (v ∷ vs) = spaced (w ++ (32 ∷ v)) vs

-- the same from the front
pub spaced_front : (w v : List ℕ) (vs : List (List ℕ)) → spaced (w ++ (32 ∷ v)) vs ≡ w ++ (32 ∷ spaced v vs)
spaced_front w v [] = refl
spaced_front w v (u ∷ us) = ap (λ l. spaced l us) (append_assoc w (32 ∷ v) (32 ∷ u)) ∙ spaced_front w (v ++ (32 ∷ u)) us

abbrev is_some_word : List ℕ → Bool
is_some_word w = not (length w == 0)

kept : (w : List ℕ) → 0 < length w → is_some_word w ≡ true
kept w h = ap not (ne_eqb (length w) 0 (λ e. omega arith))

keeps : (w : List ℕ) (ws : List (List ℕ)) → 0 < length w → filter is_some_word (w ∷ ws) ≡ w ∷ filter is_some_word ws
keeps w ws h = ap (λ b. cond b (w ∷ filter is_some_word ws) (filter is_some_word ws)) (kept w h)

pub words_spaced : (w : List ℕ) (ws : List (List ℕ)) → IsWord w → AreWords ws → words (spaced w ws) ≡ w ∷ ws
unfolding words
words_spaced w [] h hs = ap (filter is_some_word) (slice_split_none is_space w h.whole) ∙ keeps w [] h.some
words_spaced w (v ∷ vs) h hs =
    ap (λ text. filter is_some_word (slice_split is_space text)) (spaced_front w v vs)
    ∙ ap (filter is_some_word) (slice_split_at is_space w 32 (spaced v vs) h.whole refl)
    ∙ keeps w (slice_split is_space (spaced v vs)) h.some
    ∙ ap (λ ws. w ∷ ws) (words_spaced v vs hs.0 hs.1)

-- ---- Which bytes are words.

-- the test that there is no space, which computes
abbrev has_no_space : List ℕ → Bool
has_no_space [] = true
has_no_space (b ∷ w) = not (is_space b) && has_no_space w

turned : (b : Bool) → not b ≡ true → b ≡ false
turned true h = sym h
turned false h = refl

pub all_by_test : (w : List ℕ) → has_no_space w ≡ true → All (λ b. is_space b ≡ false) w
all_by_test [] h = All-nil (λ b. is_space b ≡ false)
all_by_test (b ∷ w) h =
    let parts = and_parts (not (is_space b)) (has_no_space w) h in
    All-cons (λ b. is_space b ≡ false) b w (turned (is_space b) parts.0) (all_by_test w parts.1)

digit_at : (t : List ℕ) (d : ℕ) → has_no_space t ≡ true → is_space (slice_index t d) ≡ false
digit_at [] d h = refl
digit_at (b ∷ t) zero h = turned (is_space b) (and_parts (not (is_space b)) (has_no_space t) h).0
digit_at (b ∷ t) (suc d) h = digit_at t d (and_parts (not (is_space b)) (has_no_space t) h).1

pub all_digits : (xs : List ℕ) → All (λ b. is_space b ≡ false) (encode_upper xs)
unfolding encode_with
all_digits [] = All-nil (λ b. is_space b ≡ false)
all_digits (x ∷ xs) =
    All-cons (λ b. is_space b ≡ false) (slice_index upper_digits (x / 16))
    (slice_index upper_digits (x % 16) ∷ encode_upper xs) (digit_at upper_digits (x / 16) refl)
    (All-cons (λ b. is_space b ≡ false) (slice_index upper_digits (x % 16)) (encode_upper xs)
    (digit_at upper_digits (x % 16) refl) (all_digits xs))

pub digits_word : (xs : List ℕ) → 0 < length xs → IsWord (encode_upper xs)
digits_word xs h = let two = length-encode_with upper_digits xs in record { some = omega arith; whole = all_digits xs }

-- ---- What digits spell.

pub are_bytes : (xs : List ℕ) → AreBytes xs → IsBytes xs
are_bytes [] h i = omega arith
are_bytes (x ∷ xs) h zero = h.0
are_bytes (x ∷ xs) h (suc i) = are_bytes xs h.1 i

pub digits_sized : (xs : List ℕ) (n : ℕ) → length xs ≡ n → AreBytes xs → decode_sized (encode_upper xs) n ≡ Ok xs
digits_sized xs n same h =
    let two = length-encode_with upper_digits xs in
    decode_sized-twice (encode_upper xs) n (omega (arith, two, same)) ∙ decode_of-encode_upper xs (are_bytes xs h)

abbrev pub byte_digits : ℕ → List ℕ
byte_digits b = encode_upper (b ∷ [])

abbrev pub number_digits : ℕ → List ℕ
number_digits n = encode_upper (high_first n)

pub byte_is_word : (b : ℕ) → IsWord (byte_digits b)
byte_is_word b = digits_word (b ∷ []) (omega arith)

pub number_is_word : (n : ℕ) → IsWord (number_digits n)
number_is_word n = digits_word (high_first n) (omega arith)

pub byte_spelled : (b : ℕ) → b < 256 → IsByte (byte_digits b) b
byte_spelled b h = digits_sized (b ∷ []) 1 refl (h, tt)

pub number_spelled : (n : ℕ) → AreBytes (high_first n) → IsNumber (number_digits n) n
number_spelled n h = digits_sized (high_first n) 2 refl h

-- the digits of a row, or a hyphen
abbrev pub row_digits : List ℕ → List ℕ
row_digits xs = if length xs == 0 then codes "-" else encode_upper xs

pub row_of_some : (xs : List ℕ) → 0 < length xs → row_digits xs ≡ encode_upper xs
row_of_some xs h = ap (λ b. cond b (codes "-") (encode_upper xs)) (ne_eqb (length xs) 0 (λ e. omega arith))

pub row_is_word : (xs : List ℕ) → IsWord (row_digits xs)
row_is_word [] = record { some = omega arith; whole = all_by_test (codes "-") refl }
row_is_word (x ∷ xs) = subst IsWord (sym (row_of_some (x ∷ xs) (omega arith))) (digits_word (x ∷ xs) (omega arith))

pub row_spelled : (xs : List ℕ) → AreBytes xs → IsRow (row_digits xs) xs
row_spelled [] h = inl (refl, refl)
row_spelled (x ∷ xs) h = inr (ap decode_of (row_of_some (x ∷ xs) (omega arith))
    ∙ decode_of-encode_upper (x ∷ xs) (are_bytes (x ∷ xs) h))

name_spelled : (name : List ℕ) → length name ≡ 8 → AreBytes name → decode_sized (row_digits name) 8 ≡ Ok name
name_spelled name eight h = ap (λ w. decode_sized w 8) (row_of_some name (omega arith)) ∙ digits_sized name 8 eight h

plain : (w : List ℕ) → 0 < length w → has_no_space w ≡ true → IsWord w
plain w some none = record { some = some; whole = all_by_test w none }

-- ---- Elements.

pub named_as_shown : (e : Element) → IsElement e → AreBytes (spelling e) → Names (words (element_words e)) e
unfolding byte_word number_word row_word
named_as_shown (Pi dsn psn pi) is h = (
  byte_digits dsn,
  byte_digits psn,
  number_digits pi,
  words_spaced (codes "pi") (byte_digits dsn ∷ byte_digits psn ∷ number_digits pi ∷ [])
      (plain (codes "pi") (lit< tt) refl) (byte_is_word dsn, (byte_is_word psn, (number_is_word pi, tt))),
  byte_spelled dsn h.1.0,
  byte_spelled psn h.1.1.0,
  number_spelled pi h.1.1.1,
)
named_as_shown (Ps dsn psn name) is h = (
  byte_digits dsn,
  byte_digits psn,
  row_digits name,
  words_spaced (codes "ps") (byte_digits dsn ∷ byte_digits psn ∷ row_digits name ∷ [])
      (plain (codes "ps") (lit< tt) refl) (byte_is_word dsn, (byte_is_word psn, (row_is_word name, tt))),
  byte_spelled dsn h.1.0,
  byte_spelled psn h.1.1.0,
  name_spelled name is h.1.1.1,
)
named_as_shown (TaTp dsn psn raw) is h = (
  byte_digits dsn,
  byte_digits psn,
  byte_digits raw,
  words_spaced (codes "tatp") (byte_digits dsn ∷ byte_digits psn ∷ byte_digits raw ∷ [])
      (plain (codes "tatp") (lit< tt) refl) (byte_is_word dsn, (byte_is_word psn, (byte_is_word raw, tt))),
  byte_spelled dsn h.1.0,
  byte_spelled psn h.1.1.0,
  byte_spelled raw h.1.1.1.0,
)
named_as_shown (Ms dsn psn raw) is h = (
  byte_digits dsn,
  byte_digits psn,
  byte_digits raw,
  words_spaced (codes "ms") (byte_digits dsn ∷ byte_digits psn ∷ byte_digits raw ∷ [])
      (plain (codes "ms") (lit< tt) refl) (byte_is_word dsn, (byte_is_word psn, (byte_is_word raw, tt))),
  byte_spelled dsn h.1.0,
  byte_spelled psn h.1.1.0,
  byte_spelled raw h.1.1.1.0,
)
named_as_shown (Pty dsn psn raw) is h = (
  byte_digits dsn,
  byte_digits psn,
  byte_digits raw,
  words_spaced (codes "pty") (byte_digits dsn ∷ byte_digits psn ∷ byte_digits raw ∷ [])
      (plain (codes "pty") (lit< tt) refl) (byte_is_word dsn, (byte_is_word psn, (byte_is_word raw, tt))),
  byte_spelled dsn h.1.0,
  byte_spelled psn h.1.1.0,
  byte_spelled raw h.1.1.1.0,
)
named_as_shown (Rt dsn psn NoText) is h = (
  byte_digits dsn,
  byte_digits psn,
  words_spaced (codes "rt") (byte_digits dsn ∷ byte_digits psn ∷ codes "empty" ∷ []) (plain (codes "rt") (lit< tt) refl)
      (byte_is_word dsn, (byte_is_word psn, (plain (codes "empty") (lit< tt) refl, tt))),
  byte_spelled dsn h.1.0,
  byte_spelled psn h.1.1.0,
)
named_as_shown (Rt dsn psn (Text head text)) is h = (
  byte_digits dsn,
  byte_digits psn,
  byte_digits head,
  row_digits text,
  ap words (sym (append_assoc (spaced (codes "rt") (byte_digits dsn ∷ byte_digits psn ∷ [])) (32 ∷ byte_digits head)
      (32 ∷ row_digits text)))
      ∙ words_spaced (codes "rt") (byte_digits dsn ∷ byte_digits psn ∷ byte_digits head ∷ row_digits text ∷ [])
      (plain (codes "rt") (lit< tt) refl)
      (byte_is_word dsn, (byte_is_word psn, (byte_is_word head, (row_is_word text, tt)))),
  byte_spelled dsn h.1.0,
  byte_spelled psn h.1.1.0,
  byte_spelled head h.1.1.1.1.0,
  row_spelled text h.1.1.1.1.1,
  is,
)
named_as_shown (Select dsn) is h = (
  byte_digits dsn,
  words_spaced (codes "select") (byte_digits dsn ∷ []) (plain (codes "select") (lit< tt) refl)
      (byte_is_word dsn, tt),
  byte_spelled dsn h.1.0,
)
named_as_shown (Group kind mode block3 block4) is h = (
  byte_digits kind,
  byte_digits mode,
  number_digits block3,
  number_digits block4,
  words_spaced (codes "group") (byte_digits kind ∷ byte_digits mode ∷ number_digits block3 ∷ number_digits block4 ∷ [])
      (plain (codes "group") (lit< tt) refl)
      (byte_is_word kind, (byte_is_word mode, (number_is_word block3, (number_is_word block4, tt)))),
  byte_spelled kind h.1.0,
  byte_spelled mode h.1.1.0,
  number_spelled block3 (h.1.1.1.0, (h.1.1.1.1.0, tt)),
  number_spelled block4 h.1.1.1.1.1,
)
named_as_shown (Ack code counter) is h = (
  byte_digits code,
  byte_digits counter,
  words_spaced (codes "ack") (byte_digits code ∷ byte_digits counter ∷ []) (plain (codes "ack") (lit< tt) refl)
      (byte_is_word code, (byte_is_word counter, tt)),
  byte_spelled code h.1.0,
  byte_spelled counter h.1.1.0,
)

-- ---- The first line of a frame.

pub begun_as_shown : (address counter : ℕ) → address < 0x10000 → counter < 0x100
    → Says (words (codes "frame" ++ number_word address ++ byte_word counter)) (Begins address counter)
unfolding byte_word number_word
begun_as_shown address counter high low = (
  number_digits address,
  byte_digits counter,
  words_spaced (codes "frame") (number_digits address ∷ byte_digits counter ∷ []) (plain (codes "frame") (lit< tt) refl)
      (number_is_word address, (byte_is_word counter, tt)),
  number_spelled address (omega arith, (omega arith, tt)),
  byte_spelled counter low,
)
