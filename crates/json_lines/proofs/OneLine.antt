-- No control stands in the text of a value.
use Rattle.std.proofs.Common.{◌≡◌, ℕ, zero, suc, ◌≤◌, ◌/◌, ◌%◌, ◌==◌, Bool, true, false, cond, List, [], ◌∷◌}
use Rattle.std.proofs.Common.{◌++◌, codes, decimal, refl, sym, ◌∙◌, subst, arith, inl, inr, pos, negsuc}
use Rattle.std.proofs.lemmas.Bool.{and_from, le-leb, agree_below, agree_below_at, cases_lt}
use Rattle.std.proofs.lemmas.Bool.Decides.{nat_tests}
use Rattle.std.proofs.lemmas.List.Folds.{list_all-append}
use Rattle.std.specs.Fmt.{digits, digits_onto, digit_glyph}
use Rattle.std.specs.List.{list_all}
use Rattle.json.specs.Print.{escape_byte, escape, quoted}
use Rattle.serde_json.specs.Data.{Data, null, boolean, number, string, array, object, Num, unsigned, negative, float}
use Rattle.serde_json.specs.Data.{Items, no_items, item, Members, no_members, member}
use Rattle.serde_json.specs.Written.{number_text, compact_text, items_text, members_text, comma_if}
use Rattle.json_lines.specs.Objects.{Field, object_of, in_decimal, line_of}
use Rattle.json_lines.specs.Laws.{is_visible, IsOneLine}

abbrev Shows : List ℕ → Type 0
Shows text = list_all is_visible text ≡ true

shows_then : (x y : List ℕ) → Shows x → Shows y → Shows (x ++ y)
shows_then x y p q = list_all-append is_visible x y ∙ and_from _ _ p q

shows_more : (b : ℕ) (x : List ℕ) → 0x20 ≤ b → Shows x → Shows (b ∷ x)
shows_more b x least p = and_from _ _ (le-leb 0x20 b least) p

-- ---- Strings.

abbrev escapes_visibly : ℕ → Bool
escapes_visibly byte = list_all is_visible (escape_byte byte)

low_escapes : agree_below escapes_visibly (λ _. true) 0x80 ≡ true
unfolding escape_byte
low_escapes = refl

as_it_is : (x : ℕ) → 0x80 ≤ x → escape_byte x ≡ x ∷ []
unfolding escape_byte
as_it_is x high = grind (arith, nat_tests)

escape_shows : (b : ℕ) → Shows (escape_byte b)
escape_shows b = elim (cases_lt b 0x80) [
  | inl low ↦ agree_below_at escapes_visibly (λ _. true) 0x80 b low_escapes low
  | inr high ↦ subst Shows (sym (as_it_is b high)) (shows_more b [] (omega arith) refl)
]

escaped_shows : (text : List ℕ) → Shows (escape text)
escaped_shows [] = refl
escaped_shows (b ∷ text) = shows_then (escape_byte b) (escape text) (escape_shows b) (escaped_shows text)

quoted_shows : (text : List ℕ) → Shows (quoted text)
quoted_shows text = shows_then (escape text) (0x22 ∷ []) (escaped_shows text) refl

-- ---- Numbers.

digit_shows : (n : ℕ) → 0x20 ≤ digit_glyph false (n % 10)
digit_shows n = grind (arith, nat_tests)

by_last : (b : Bool) (one more : List ℕ) → Shows one → Shows more → Shows (cond b one more)
by_last true one more p q = p
by_last false one more p q = q

onto_shows : (k n : ℕ) (acc : List ℕ) → Shows acc → Shows (digits_onto k 10 false n acc)
onto_shows zero n acc shows = shows
onto_shows (suc k) n acc shows =
    let d = digit_glyph false (n % 10) in
    let first = shows_more d acc (digit_shows n) shows in
    by_last (n / 10 == 0) (d ∷ acc) (digits_onto k 10 false (n / 10) (d ∷ acc)) first
    (onto_shows k (n / 10) (d ∷ acc) first)

decimal_shows : (n : ℕ) → Shows (decimal n)
unfolding digits
decimal_shows n = onto_shows 64 n [] refl

number_shows : (n : Num) → Shows (number_text n)
number_shows (unsigned n) = decimal_shows n
number_shows (negative (pos n)) = decimal_shows n
number_shows (negative (negsuc n)) = decimal_shows (suc n)
number_shows (float x) = refl

-- ---- Values.

flag_shows : (b : Bool) → Shows (compact_text (boolean b))
flag_shows true = refl
flag_shows false = refl

comma_shows : (b : Bool) → Shows (comma_if b)
comma_shows true = refl
comma_shows false = refl

mutual
  pub value_shows : (d : Data) → Shows (compact_text d)
  value_shows null = refl
  value_shows (boolean b) = flag_shows b
  value_shows (number n) = number_shows n
  value_shows (string s) = quoted_shows s
  value_shows (array ds) = shows_more 0x5B (items_text false ds) (omega arith) (items_show false ds)
  value_shows (object ms) = shows_more 0x7B (members_text false ms) (omega arith) (members_show false ms)

  items_show : (later : Bool) (ds : Items) → Shows (items_text later ds)
  items_show later no_items = refl
  items_show later (item d ds) = shows_then (comma_if later) (compact_text d ++ items_text true ds) (comma_shows later)
      (shows_then (compact_text d) (items_text true ds) (value_shows d) (items_show true ds))

  members_show : (later : Bool) (ms : Members) → Shows (members_text later ms)
  members_show later no_members = refl
  members_show later (member k d ms) =
      let rest = compact_text d ++ members_text true ms in
      let shown : Shows rest =
      shows_then (compact_text d) (members_text true ms) (value_shows d) (members_show true ms) in
      shows_then (comma_if later) (quoted k ++ 0x3A ∷ rest) (comma_shows later)
      (shows_then (quoted k) (0x3A ∷ rest) (quoted_shows k) (shows_more 0x3A rest (omega arith) shown))

pub one_line : (kind : List ℕ) (fields : List Field) → IsOneLine (line_of kind fields)
unfolding line_of
one_line kind fields =
    let whole = object_of ((codes "format", in_decimal 1) ∷ (codes "kind", string kind) ∷ fields) in
    (compact_text whole, refl, value_shows whole)
