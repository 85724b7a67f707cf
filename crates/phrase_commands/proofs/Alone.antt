-- What is written of a string reads as it alone.
use Rattle.std.proofs.Common.{◌≡◌, ◌∙◌, ℕ, ◌+◌, ◌-◌, ◌≤◌, List, [], ◌∷◌, ◌++◌, length, map, sym, ap, subst, refl}
use Rattle.std.proofs.Common.{Some, None, inl, inr, arith, append_assoc, append-nil}
use Rattle.std.specs.Prelude.{chars, codes}
use Rattle.std.specs.List.{AllByRecursion}
use Rattle.std.proofs.lemmas.List.{length-append}
use Rattle.std.proofs.lemmas.Bool.{cases_lt}
use Rattle.std.proofs.lemmas.Bool.Decides.{nat_tests}
use Rattle.std.proofs.lemmas.Option.{slice_get_past}
use Rattle.rds_text.specs.BasicSet.{character_of, upper}
use Rattle.phrase_tokens.specs.Tokens.{Token, Word, Quoted, Semicolon, IsToken, Lays}
use Rattle.phrase_tokens.proofs.Public.{one_reading, read_back, through_utf8}
use Rattle.uecp_text.specs.Input.{without_end}
use Rattle.phrase_commands.specs.Quoting.{AreQuoted, IsAlone, IsString, string_line, string_text}

upper_length : length upper ≡ 127
unfolding upper
upper_length = refl

none_from_ff : (byte : ℕ) → 0xFF ≤ byte → character_of byte ≡ None
unfolding character_of
none_from_ff byte past = grind (arith, nat_tests, slice_get_past upper (byte - 0x80) (omega (arith, upper_length)))

is_byte : (byte character : ℕ) → character_of byte ≡ Some character → byte ≤ 0xFF
is_byte byte character is = elim (cases_lt byte 0xFF) [
  | inl below ↦ omega (arith, below)
  | inr past ↦ absurd (let none = none_from_ff byte past in cc)
]

are_bytes : (bytes characters : List ℕ) → map character_of bytes ≡ map Some characters
    → AllByRecursion (λ b. b ≤ 0xFF) bytes
are_bytes [] characters same = tt
are_bytes (byte ∷ bytes) [] same = cc
are_bytes (byte ∷ bytes) (character ∷ characters) same = (is_byte byte character cc, are_bytes bytes characters cc)

-- a string is a token
is_token : (text : List ℕ) (string : Token) → IsString text string → IsToken string
is_token text (Word w) is = absurd is
is_token text (Quoted bytes) is = (is.2, are_bytes bytes (chars text) is.1)
is_token text Semicolon is = absurd is

pub alone : (text : List ℕ) (string : Token) → IsString text string → IsAlone (string_text string) string
alone text string is =
    let all : AllByRecursion IsToken (string ∷ []) = (is_token text string is, tt) in
    let utf8 = through_utf8 (string ∷ []) all in
    let lays : Lays (string ∷ []) (chars (string_text string)) =
    subst (Lays (string ∷ [])) (sym utf8.1) (read_back (string ∷ []) all) in
    (utf8.0, lays, λ tokens reads. one_reading tokens (string ∷ []) (chars (string_text string)) reads lays)

-- one more line behind others
pub quoted_more : (lines : List (List ℕ)) (line written : List ℕ) (string : Token) → AreQuoted lines written
    → IsString (without_end line) string → AreQuoted (lines ++ line ∷ []) (written ++ string_line string)
quoted_more [] line written string none is = (
  string_text string,
  [],
  (string, is, refl, alone (without_end line) string is),
  ap (λ w. w ++ string_line string) none ∙ sym (append-nil (string_line string)),
  refl,
)
quoted_more (first ∷ lines) line written string (quoted, more, is_first, whole, others) is = (
  quoted,
  more ++ string_line string,
  is_first,
  ap (λ w. w ++ string_line string) whole ∙ append_assoc (quoted ++ codes "\n") more (string_line string),
  quoted_more lines line more string others is,
)

-- a line more was counted
pub longer : (lines : List (List ℕ)) (line : List ℕ) (number : ℕ) → number ≡ length lines + 1
    → number + 1 ≡ length (lines ++ line ∷ []) + 1
longer lines line number counted =
    let long : length (lines ++ line ∷ []) ≡ length lines + 1 = length-append lines (line ∷ []) in
    omega (arith, long, counted)
