-- Texts that stand in a string of JSON as they are.
use Rattle.std.proofs.Common.{◌≡◌, ◌≢◌, ℕ, suc, ◌<◌, ◌≤◌, ◌/◌, ◌%◌, ◌==◌, ◌&&◌, Bool, true, List, [], ◌∷◌}
use Rattle.std.proofs.Common.{◌++◌, length, get_or, refl, sym, ap, ap₂, ◌∙◌, subst, arith, inl, inr}
use Rattle.std.proofs.Common.{append_assoc, append-nil, nat_le, nat_lt, not, codes}
use Rattle.std.proofs.lemmas.Bool.{and_parts, and_from, eqb-false, leb-true, not-true, agree_below, agree_below_at}
use Rattle.std.proofs.lemmas.Bool.{cases_lt}
use Rattle.std.proofs.lemmas.Bool.Decides.{nat_tests}
use Rattle.std.proofs.lemmas.List.Elements.{All-get_or}
use Rattle.std.proofs.lemmas.List.Sums.{AllPass-from_list_all}
use Rattle.std.proofs.lemmas.Str.{encode_ascii, inside_one}
use Rattle.std.specs.Char.{encode_utf8}
use Rattle.std.specs.List.{list_all}
use Rattle.hex.specs.Hex.{encode_with, encode_upper, upper_digits}
use Rattle.json.specs.Print.{escape_byte, escape, quoted}
use Rattle.rds_text.specs.BasicSet.{character_of, upper}
use Rattle.rds_text.specs.Quoted.{written}
use Rattle.json_lines.specs.Stamps.{is_plain as stamps}
use Rattle.json_lines.specs.Texts.{is_plain_byte, is_plain}
use Rattle.uecp_text.specs.Written.{Kept, Adds}
use Rattle.uecp_text.proofs.Public.{adds_then}

-- ---- Bytes and texts that need no escape.

plain_byte : (x : ℕ) → 0x20 ≤ x → x ≢ 0x22 → x ≢ 0x5C → escape_byte x ≡ x ∷ []
unfolding escape_byte
plain_byte x least quote slash = grind (arith, nat_tests)

escape_then : (x : ℕ) (xs : List ℕ) → escape_byte x ≡ x ∷ [] → escape xs ≡ xs → escape (x ∷ xs) ≡ x ∷ xs
escape_then x xs first rest = ap₂ (λ (a b : List ℕ). a ++ b) first rest

pub escape_plain : (text : List ℕ) → is_plain text ≡ true → escape text ≡ text
escape_plain [] plain = refl
escape_plain (x ∷ xs) plain =
    let each = and_parts (is_plain_byte x) (is_plain xs) plain in
    let some = and_parts (nat_le 0x20 x && not (x == 0x22)) (not (x == 0x5C)) each.0 in
    let first = and_parts (nat_le 0x20 x) (not (x == 0x22)) some.0 in
    escape_then x xs
    (plain_byte x (leb-true 0x20 x first.0) (eqb-false x 0x22 (not-true (x == 0x22) first.1))
    (eqb-false x 0x5C (not-true (x == 0x5C) some.1)))
    (escape_plain xs each.1)

pub quoted_plain : (text : List ℕ) → is_plain text ≡ true → quoted text ≡ 0x22 ∷ (text ++ 0x22 ∷ [])
quoted_plain text plain = ap (λ (t : List ℕ). 0x22 ∷ (t ++ 0x22 ∷ [])) (escape_plain text plain)

-- ---- Digits.

abbrev has_plain_digits : ℕ → Bool
has_plain_digits byte = is_plain (encode_upper (byte ∷ []))

all_digits : agree_below has_plain_digits (λ _. true) 0x100 ≡ true
unfolding encode_with
all_digits = refl

pub plain_digits : (bytes : List ℕ) → ((k : ℕ) → get_or bytes k 0 < 0x100) → is_plain (encode_upper bytes) ≡ true
unfolding encode_with
plain_digits [] small = refl
plain_digits (b ∷ bytes) small =
    let first : has_plain_digits b ≡ true =
    agree_below_at has_plain_digits (λ _. true) 0x100 b all_digits (small 0) in
    let rest = plain_digits bytes (λ k. small (suc k)) in
    let high = is_plain_byte (get_or upper_digits (b / 16) 0) in
    let low = is_plain_byte (get_or upper_digits (b % 16) 0) in
    let one = and_parts high (low && true) first in
    let two = and_parts low true one.1 in
    and_from high _ one.0 (and_from low _ two.0 rest)

-- ---- What a clock shows.

plain_one : (c : ℕ) → stamps c ≡ true → is_plain_byte c ≡ true
plain_one c plain =
    let a = and_parts (nat_le 0x20 c && nat_lt c 0x7F && not (c == 0x22)) (not (c == 0x5C)) plain in
    let b = and_parts (nat_le 0x20 c && nat_lt c 0x7F) (not (c == 0x22)) a.0 in
    let d = and_parts (nat_le 0x20 c) (nat_lt c 0x7F) b.0 in
    and_from (nat_le 0x20 c && not (c == 0x22)) (not (c == 0x5C)) (and_from (nat_le 0x20 c) (not (c == 0x22)) d.0 b.1)
    a.1

-- A stamp holds no byte that a string has to escape.
pub plain_stamp : (stamp : List ℕ) → list_all stamps stamp ≡ true → is_plain stamp ≡ true
plain_stamp [] plain = refl
plain_stamp (c ∷ cs) plain =
    let each = and_parts (stamps c) (list_all stamps cs) plain in
    and_from (is_plain_byte c) (is_plain cs) (plain_one c each.0) (plain_stamp cs each.1)

-- ---- Characters.

pub escape-append : (xs ys : List ℕ) → escape (xs ++ ys) ≡ escape xs ++ escape ys
escape-append [] ys = refl
escape-append (x ∷ xs) ys =
    ap (λ l. escape_byte x ++ l) (escape-append xs ys) ∙ sym (append_assoc (escape_byte x) (escape xs) (escape ys))

escape_high : (xs : List ℕ) → ((k : ℕ) → k < length xs → 0x80 ≤ get_or xs k 0) → escape xs ≡ xs
escape_high [] high = refl
escape_high (x ∷ xs) high =
    let first : 0x80 ≤ x = high 0 (omega arith) in
    escape_then x xs (plain_byte x (omega arith) (λ e. omega arith) (λ e. omega arith))
    (escape_high xs (λ k below. high (suc k) (omega arith)))

-- A character that is no control, no quote and no backslash stands as it is.
pub plain_character : (c : ℕ) → 0x20 ≤ c → c ≢ 0x22 → c ≢ 0x5C → escape (encode_utf8 c) ≡ encode_utf8 c
plain_character c least quote slash = elim (cases_lt c 0x80) [
  | inl ascii ↦
      rw (encode_ascii c ascii) (escape_then c [] (plain_byte c least quote slash) refl)
  | inr big ↦
      escape_high (encode_utf8 c) (λ k below. elim (cases_lt (get_or (encode_utf8 c) k 0) 0x80) [
        | inl low ↦
            absurd (let one = inside_one c [] (encode_utf8 c) k (sym (append-nil (encode_utf8 c))) below low in
            omega arith)
        | inr here ↦ here
      ])
]

abbrev is_visible : ℕ → Bool
is_visible character = nat_le 0x20 character

abbrev is_written_visibly : ℕ → Bool
is_written_visibly byte = list_all is_visible (written byte)

all_visible : agree_below is_written_visibly (λ _. true) 0x100 ≡ true
unfolding character_of upper
all_visible = refl

-- No control stands in what is written of a byte.
pub written_visibly : (byte : ℕ) → byte < 0x100 → list_all is_visible (written byte) ≡ true
written_visibly byte small = agree_below_at is_written_visibly (λ _. true) 0x100 byte all_visible small

-- ---- Written between quotes.

-- What is added between two quotes is a string.
pub adds_quoted : (a b c d : Kept) (text : List ℕ) → is_plain text ≡ true → Adds a b (codes "\"") → Adds b c text
    → Adds c d (codes "\"") → Adds a d (quoted text)
adds_quoted a b c d text plain front middle back =
    let whole : codes "\"" ++ text ++ codes "\"" ≡ quoted text = sym (quoted_plain text plain) in
    subst (Adds a d) whole
    (adds_then a c d (codes "\"" ++ text) (codes "\"") (adds_then a b c (codes "\"") text front middle) back)

-- So is each of its characters, as a loop reads them.
pub visible_at : (byte : ℕ) (characters : List ℕ) (k character : ℕ) → byte < 0x100 → characters ≡ written byte
    → k < length characters → character ≡ get_or characters k character → 0x20 ≤ character
visible_at byte characters k character small same below is =
    let all = AllPass-from_list_all is_visible (written byte) (written_visibly byte small) in
    let here : is_visible (get_or (written byte) k character) ≡ true =
    All-get_or (λ c. is_visible c ≡ true) (written byte) k character (subst (λ l. k < length l) same below) all in
    subst (λ c. 0x20 ≤ c) (sym (is ∙ ap (λ l. get_or l k character) same)) (leb-true 0x20 _ here)
