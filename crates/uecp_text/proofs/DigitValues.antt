-- Bytes that are read from two digits by tables, four at once.
use Rattle.std.proofs.Common.{◌≡◌, ◌<◌, ◌≤◌, ◌+◌, ◌*◌, ◌%◌, ℕ, List, [], ◌∷◌, refl, ◌∙◌, ap, sym, subst, map, zero, suc}
use Rattle.std.proofs.Common.{arith, slice_index, slice_set, get_or, length, take, drop, Option, Some, None, Result, Ok}
use Rattle.std.proofs.Common.{Err}
use Rattle.std.proofs.Common.{IsErr, ◌⊎◌, inl, inr, bit_or, Fits, is_err, ◌^◌}
use mir.Syntax.{w16}
use Rattle.std.specs.List.{range_with_len}
use Rattle.std.specs.Option.{option_map_or}
use Rattle.std.proofs.lemmas.Bool.{cases_lt}
use Rattle.std.proofs.lemmas.List.{length-set}
use Rattle.std.proofs.lemmas.Nat.{or_lt, le_or_l, le_or_r}
use Rattle.hex.specs.Hex.{hex_digit_value, digit_or_error, pair_value, decode_of, decode_pairs, ◌>>=◌}
use Rattle.hex.specs.declared.error.FromHexError.{FromHexError}
use Rattle.hex.proofs.Pairs.{prepend, decode_step, decode_err, decode_done}
use Rattle.hex.proofs.HexLemmas.{decode_of-even}

-- ---- the tables
abbrev high_of : ℕ → ℕ
high_of c = option_map_or (λ v. v * 16) (hex_digit_value c) 256

abbrev low_of : ℕ → ℕ
low_of c = option_map_or (λ v. v) (hex_digit_value c) 256

abbrev high_table : List ℕ
high_table =
    256 ∷ 256 ∷ 256 ∷ 256 ∷ 256 ∷ 256 ∷ 256 ∷ 256 ∷ 256 ∷ 256 ∷ 256 ∷ 256 ∷ 256 ∷ 256 ∷ 256 ∷ 256 ∷ 256 ∷ 256
    ∷ 256 ∷ 256 ∷ 256 ∷ 256 ∷ 256 ∷ 256 ∷ 256 ∷ 256 ∷ 256 ∷ 256 ∷ 256 ∷ 256 ∷ 256 ∷ 256 ∷ 256 ∷ 256 ∷ 256 ∷ 256
    ∷ 256 ∷ 256 ∷ 256 ∷ 256 ∷ 256 ∷ 256 ∷ 256 ∷ 256 ∷ 256 ∷ 256 ∷ 256 ∷ 256 ∷ 0 ∷ 16 ∷ 32 ∷ 48 ∷ 64 ∷ 80 ∷ 96
    ∷ 112 ∷ 128 ∷ 144 ∷ 256 ∷ 256 ∷ 256 ∷ 256 ∷ 256 ∷ 256 ∷ 256 ∷ 160 ∷ 176 ∷ 192 ∷ 208 ∷ 224 ∷ 240 ∷ 256 ∷ 256
    ∷ 256 ∷ 256 ∷ 256 ∷ 256 ∷ 256 ∷ 256 ∷ 256 ∷ 256 ∷ 256 ∷ 256 ∷ 256 ∷ 256 ∷ 256 ∷ 256 ∷ 256 ∷ 256 ∷ 256 ∷ 256
    ∷ 256 ∷ 256 ∷ 256 ∷ 256 ∷ 256 ∷ 256 ∷ 160 ∷ 176 ∷ 192 ∷ 208 ∷ 224 ∷ 240 ∷ 256 ∷ 256 ∷ 256 ∷ 256 ∷ 256 ∷ 256
    ∷ 256 ∷ 256 ∷ 256 ∷ 256 ∷ 256 ∷ 256 ∷ 256 ∷ 256 ∷ 256 ∷ 256 ∷ 256 ∷ 256 ∷ 256 ∷ 256 ∷ 256 ∷ 256 ∷ 256 ∷ 256
    ∷ 256 ∷ 256 ∷ 256 ∷ 256 ∷ 256 ∷ 256 ∷ 256 ∷ 256 ∷ 256 ∷ 256 ∷ 256 ∷ 256 ∷ 256 ∷ 256 ∷ 256 ∷ 256 ∷ 256 ∷ 256
    ∷ 256 ∷ 256 ∷ 256 ∷ 256 ∷ 256 ∷ 256 ∷ 256 ∷ 256 ∷ 256 ∷ 256 ∷ 256 ∷ 256 ∷ 256 ∷ 256 ∷ 256 ∷ 256 ∷ 256 ∷ 256
    ∷ 256 ∷ 256 ∷ 256 ∷ 256 ∷ 256 ∷ 256 ∷ 256 ∷ 256 ∷ 256 ∷ 256 ∷ 256 ∷ 256 ∷ 256 ∷ 256 ∷ 256 ∷ 256 ∷ 256 ∷ 256
    ∷ 256 ∷ 256 ∷ 256 ∷ 256 ∷ 256 ∷ 256 ∷ 256 ∷ 256 ∷ 256 ∷ 256 ∷ 256 ∷ 256 ∷ 256 ∷ 256 ∷ 256 ∷ 256 ∷ 256 ∷ 256
    ∷ 256 ∷ 256 ∷ 256 ∷ 256 ∷ 256 ∷ 256 ∷ 256 ∷ 256 ∷ 256 ∷ 256 ∷ 256 ∷ 256 ∷ 256 ∷ 256 ∷ 256 ∷ 256 ∷ 256 ∷ 256
    ∷ 256 ∷ 256 ∷ 256 ∷ 256 ∷ 256 ∷ 256 ∷ 256 ∷ 256 ∷ 256 ∷ 256 ∷ 256 ∷ 256 ∷ 256 ∷ 256 ∷ 256 ∷ 256 ∷ 256 ∷ 256
    ∷ 256 ∷ 256 ∷ 256 ∷ 256 ∷ 256 ∷ 256 ∷ 256 ∷ 256 ∷ 256 ∷ 256 ∷ 256 ∷ 256 ∷ 256 ∷ 256 ∷ 256 ∷ 256 ∷ 256 ∷ 256
    ∷ 256 ∷ 256 ∷ 256 ∷ []

abbrev low_table : List ℕ
low_table =
    256 ∷ 256 ∷ 256 ∷ 256 ∷ 256 ∷ 256 ∷ 256 ∷ 256 ∷ 256 ∷ 256 ∷ 256 ∷ 256 ∷ 256 ∷ 256 ∷ 256 ∷ 256 ∷ 256 ∷ 256
    ∷ 256 ∷ 256 ∷ 256 ∷ 256 ∷ 256 ∷ 256 ∷ 256 ∷ 256 ∷ 256 ∷ 256 ∷ 256 ∷ 256 ∷ 256 ∷ 256 ∷ 256 ∷ 256 ∷ 256 ∷ 256
    ∷ 256 ∷ 256 ∷ 256 ∷ 256 ∷ 256 ∷ 256 ∷ 256 ∷ 256 ∷ 256 ∷ 256 ∷ 256 ∷ 256 ∷ 0 ∷ 1 ∷ 2 ∷ 3 ∷ 4 ∷ 5 ∷ 6 ∷ 7 ∷ 8
    ∷ 9 ∷ 256 ∷ 256 ∷ 256 ∷ 256 ∷ 256 ∷ 256 ∷ 256 ∷ 10 ∷ 11 ∷ 12 ∷ 13 ∷ 14 ∷ 15 ∷ 256 ∷ 256 ∷ 256 ∷ 256 ∷ 256
    ∷ 256 ∷ 256 ∷ 256 ∷ 256 ∷ 256 ∷ 256 ∷ 256 ∷ 256 ∷ 256 ∷ 256 ∷ 256 ∷ 256 ∷ 256 ∷ 256 ∷ 256 ∷ 256 ∷ 256 ∷ 256
    ∷ 256 ∷ 256 ∷ 256 ∷ 10 ∷ 11 ∷ 12 ∷ 13 ∷ 14 ∷ 15 ∷ 256 ∷ 256 ∷ 256 ∷ 256 ∷ 256 ∷ 256 ∷ 256 ∷ 256 ∷ 256 ∷ 256
    ∷ 256 ∷ 256 ∷ 256 ∷ 256 ∷ 256 ∷ 256 ∷ 256 ∷ 256 ∷ 256 ∷ 256 ∷ 256 ∷ 256 ∷ 256 ∷ 256 ∷ 256 ∷ 256 ∷ 256 ∷ 256
    ∷ 256 ∷ 256 ∷ 256 ∷ 256 ∷ 256 ∷ 256 ∷ 256 ∷ 256 ∷ 256 ∷ 256 ∷ 256 ∷ 256 ∷ 256 ∷ 256 ∷ 256 ∷ 256 ∷ 256 ∷ 256
    ∷ 256 ∷ 256 ∷ 256 ∷ 256 ∷ 256 ∷ 256 ∷ 256 ∷ 256 ∷ 256 ∷ 256 ∷ 256 ∷ 256 ∷ 256 ∷ 256 ∷ 256 ∷ 256 ∷ 256 ∷ 256
    ∷ 256 ∷ 256 ∷ 256 ∷ 256 ∷ 256 ∷ 256 ∷ 256 ∷ 256 ∷ 256 ∷ 256 ∷ 256 ∷ 256 ∷ 256 ∷ 256 ∷ 256 ∷ 256 ∷ 256 ∷ 256
    ∷ 256 ∷ 256 ∷ 256 ∷ 256 ∷ 256 ∷ 256 ∷ 256 ∷ 256 ∷ 256 ∷ 256 ∷ 256 ∷ 256 ∷ 256 ∷ 256 ∷ 256 ∷ 256 ∷ 256 ∷ 256
    ∷ 256 ∷ 256 ∷ 256 ∷ 256 ∷ 256 ∷ 256 ∷ 256 ∷ 256 ∷ 256 ∷ 256 ∷ 256 ∷ 256 ∷ 256 ∷ 256 ∷ 256 ∷ 256 ∷ 256 ∷ 256
    ∷ 256 ∷ 256 ∷ 256 ∷ 256 ∷ 256 ∷ 256 ∷ 256 ∷ 256 ∷ 256 ∷ 256 ∷ 256 ∷ 256 ∷ 256 ∷ 256 ∷ 256 ∷ 256 ∷ 256 ∷ 256
    ∷ 256 ∷ 256 ∷ 256 ∷ 256 ∷ 256 ∷ 256 ∷ 256 ∷ 256 ∷ 256 ∷ 256 ∷ 256 ∷ 256 ∷ 256 ∷ 256 ∷ 256 ∷ 256 ∷ 256 ∷ []

high_is : map high_of (range_with_len 0 256) ≡ high_table
high_is = refl

low_is : map low_of (range_with_len 0 256) ≡ low_table
low_is = refl

at_map : (f : ℕ → ℕ) (a n i : ℕ) → i < n → get_or (map f (range_with_len a n)) i 0 ≡ f (a + i)
at_map f a zero i h = absurd (omega arith)
at_map f a (suc n) zero h = let e : a ≡ a + 0 = omega arith in ap f e
at_map f a (suc n) (suc i) h = let e : a + 1 + i ≡ a + suc i = omega arith in
    at_map f (a + 1) n i (omega arith) ∙ ap f e

high_at : (c : ℕ) → c < 256 → get_or high_table c 0 ≡ high_of c
high_at c h = let e : 0 + c ≡ c = omega arith in
    ap (λ (t : List ℕ). get_or t c 0) (sym high_is) ∙ at_map high_of 0 256 c h ∙ ap high_of e

low_at : (c : ℕ) → c < 256 → get_or low_table c 0 ≡ low_of c
low_at c h = let e : 0 + c ≡ c = omega arith in
    ap (λ (t : List ℕ). get_or t c 0) (sym low_is) ∙ at_map low_of 0 256 c h ∙ ap low_of e

-- ---- two digits
value_small : (c v : ℕ) → hex_digit_value c ≡ Some v → v < 16
value_small c v h = grind (arith)

-- what two values come to, and what the two digits are
by_values : (h l i : ℕ) (o p : Option ℕ) → ((v : ℕ) → o ≡ Some v → v < 16) → ((v : ℕ) → p ≡ Some v → v < 16)
    → let sum = option_map_or (λ v. v * 16) o 256 + option_map_or (λ v. v) p 256 in
    let pair = digit_or_error h i o >>= (λ (v : ℕ). digit_or_error l (i + 1) p >>= (λ (w : ℕ). Ok (v * 16 + w))) in
    (sum < 256 → pair ≡ Ok sum) × (256 ≤ sum → IsErr pair)
by_values h l i (Some v) (Some w) sv sw =
    let a = sv v refl in
    let b = sw w refl in
    (λ small. refl, λ great. absurd (omega (arith, a, b)))
by_values h l i (Some v) None sv sw = (λ small. absurd (omega arith), λ great. refl)
by_values h l i None p sv sw = (λ small. absurd (omega arith), λ great. refl)

pub sums_fit : (h l : ℕ) → h < 256 → l < 256 → Fits w16 (get_or high_table h 0 + get_or low_table l 0)
sums_fit h l hh hl = record {
  fits = let a = high_at h hh in let b = low_at l hl in
      let sum = by (hex_digit_value h) (hex_digit_value l) (value_small h) (value_small l) in omega (arith, a, b, sum);
}
  where
    by : (o p : Option ℕ) → ((v : ℕ) → o ≡ Some v → v < 16) → ((v : ℕ) → p ≡ Some v → v < 16)
        → option_map_or (λ v. v * 16) o 256 + option_map_or (λ v. v) p 256 < 65536
    by (Some v) (Some w) sv sw = let a = sv v refl in let b = sw w refl in omega (arith, a, b)
    by (Some v) None sv sw = let a = sv v refl in omega (arith, a)
    by None (Some w) sv sw = let b = sw w refl in omega (arith, b)
    by None None sv sw = omega arith

pub pair_reads : (h l i : ℕ) → h < 256 → l < 256 → get_or high_table h 0 + get_or low_table l 0 < 256
    → pair_value h l i ≡ Ok (get_or high_table h 0 + get_or low_table l 0)
pair_reads h l i hh hl small =
    let sum : get_or high_table h 0 + get_or low_table l 0 ≡ high_of h + low_of l =
    (λ j. high_at h hh j + low_at l hl j) in
    (by_values h l i (hex_digit_value h) (hex_digit_value l) (value_small h) (value_small l)).0 (omega arith)
    ∙ ap Ok (sym sum)

pub pair_fails : (h l i : ℕ) → h < 256 → l < 256 → 256 ≤ get_or high_table h 0 + get_or low_table l 0
    → IsErr (pair_value h l i)
pair_fails h l i hh hl great =
    let sum : get_or high_table h 0 + get_or low_table l 0 ≡ high_of h + low_of l =
    (λ j. high_at h hh j + low_at l hl j) in
    (by_values h l i (hex_digit_value h) (hex_digit_value l) (value_small h) (value_small l)).1 (omega arith)

-- ---- one byte after another
-- What is read so far is the beginning of what the text spells.
abbrev pub Decoded : (s out : List ℕ) → ℕ → Type 0
Decoded s out k = decode_pairs 0 s ≡ prepend (take k out) (decode_pairs (2 * k) (drop (2 * k) s))

-- a sum of two table entries, and what it says of the two digits at these places
pub record Reads (s : List ℕ) (x y v : ℕ) : Type 0 where
  pub byte : v < 256 → (p : ℕ) → pair_value (slice_index s x) (slice_index s y) p ≡ Ok v
  pub other : 256 ≤ v → (p : ℕ) → IsErr (pair_value (slice_index s x) (slice_index s y) p)

moved : (s : List ℕ) (x y x' y' p : ℕ) → x ≡ x' → y ≡ y'
    → pair_value (slice_index s x') (slice_index s y') p ≡ pair_value (slice_index s x) (slice_index s y) p
moved s x y x' y' p e f = λ i. pair_value (slice_index s (sym e i)) (slice_index s (sym f i)) p

pub one_more : (s out : List ℕ) (k m x y v : ℕ) → m ≡ k + 1 → x ≡ 2 * k → y ≡ 2 * k + 1 → y < length s
    → k < length out → v < 256 → Reads s x y v → Decoded s out k → Decoded s (slice_set out k v) m
one_more s out k m x y v em ex ey fits room small reads so_far =
    subst (λ n. Decoded s (slice_set out k v) n) (sym em)
    (decode_step s out k v (omega arith) room
    (moved s x y (2 * k) (2 * k + 1) (2 * k) ex ey ∙ reads.byte small (2 * k)) so_far)

error_of : (r : Result ℕ FromHexError) → IsErr r → (e : FromHexError) × (r ≡ Err e)
error_of (Ok v) h = cc h
error_of (Err e) h = (e, refl)

pub no_more : (s out : List ℕ) (k x y v : ℕ) → x ≡ 2 * k → y ≡ 2 * k + 1 → y < length s → length s % 2 ≡ 0 → 256 ≤ v
    → Reads s x y v → Decoded s out k → IsErr (decode_of s)
no_more s out k x y v ex ey fits even great reads so_far =
    let bad = error_of (pair_value (slice_index s x) (slice_index s y) (2 * k)) (reads.other great (2 * k)) in
    ap is_err (decode_of-even s even ∙ decode_err s out k bad.0 (omega arith)
    (moved s x y (2 * k) (2 * k + 1) (2 * k) ex ey ∙ bad.1) so_far)

pub all_read : (s out : List ℕ) (k : ℕ) → length out ≤ k → length s ≤ 2 * k → length s % 2 ≡ 0 → Decoded s out k
    → decode_of s ≡ Ok out
all_read s out k most fits even so_far = decode_of-even s even ∙ decode_done s out k most fits so_far

-- ---- four bytes
-- each of the four is a byte where all of them together are
pub four_small : (a b c d : ℕ) → bit_or (bit_or (bit_or a b) c) d < 256
    → (a < 256) × (b < 256) × (c < 256) × (d < 256)
four_small a b c d small =
    let abc = le_or_l (bit_or (bit_or a b) c) d in
    let ab = le_or_l (bit_or a b) c in (
      (let h = le_or_l a b in omega arith),
      (let h = le_or_r a b in omega arith),
      (let h = le_or_r (bit_or a b) c in omega arith),
      (let h = le_or_r (bit_or (bit_or a b) c) d in omega arith),
    )

module _ (s out : List ℕ) (k a b c d : ℕ)
    (fits : 8 * k + 7 < length s) (room : 4 * k + 3 < length out)
    (ra : Reads s (8 * k) (8 * k + 1) a) (rb : Reads s (8 * k + 2) (8 * k + 3) b)
    (rc : Reads s (8 * k + 4) (8 * k + 5) c) (rd : Reads s (8 * k + 6) (8 * k + 7) d)
    (so_far : Decoded s out (4 * k)) where
  abbrev one : List ℕ
  one = slice_set out (4 * k) a

  abbrev two : List ℕ
  two = slice_set one (4 * k + 1) b

  abbrev three : List ℕ
  three = slice_set two (4 * k + 2) c

  one_in : length one ≡ length out
  one_in = length-set out (4 * k) a

  two_in : length two ≡ length out
  two_in = length-set one (4 * k + 1) b ∙ one_in

  three_in : length three ≡ length out
  three_in = length-set two (4 * k + 2) c ∙ two_in

  after_one : a < 256 → Decoded s one (4 * k + 1)
  after_one sa = one_more s out (4 * k) (4 * k + 1) (8 * k) (8 * k + 1) a (omega arith) (omega arith) (omega arith)
      (omega arith) (omega arith) sa ra so_far

  after_two : a < 256 → b < 256 → Decoded s two (4 * k + 2)
  after_two sa sb = one_more s one (4 * k + 1) (4 * k + 2) (8 * k + 2) (8 * k + 3) b (omega arith) (omega arith)
      (omega arith) (omega arith) (omega (arith, one_in)) sb rb (after_one sa)

  after_three : a < 256 → b < 256 → c < 256 → Decoded s three (4 * k + 3)
  after_three sa sb sc = one_more s two (4 * k + 2) (4 * k + 3) (8 * k + 4) (8 * k + 5) c (omega arith) (omega arith)
      (omega arith) (omega arith) (omega (arith, two_in)) sc rc (after_two sa sb)

  pub four_more : bit_or (bit_or (bit_or a b) c) d < 256 → Decoded s (slice_set three (4 * k + 3) d) (4 * (k + 1))
  four_more small =
      let each = four_small a b c d small in
      one_more s three (4 * k + 3) (4 * (k + 1)) (8 * k + 6) (8 * k + 7) d (omega arith) (omega arith) (omega arith)
      (omega arith) (omega (arith, three_in)) each.3 rd (after_three each.0 each.1 each.2)

  pub four_fail : length s % 2 ≡ 0 → 256 ≤ bit_or (bit_or (bit_or a b) c) d → IsErr (decode_of s)
  four_fail even great = by (cases_lt a 256) (cases_lt b 256) (cases_lt c 256) (cases_lt d 256)
    where
      by : (a < 256) ⊎ (256 ≤ a) → (b < 256) ⊎ (256 ≤ b) → (c < 256) ⊎ (256 ≤ c) → (d < 256) ⊎ (256 ≤ d)
          → IsErr (decode_of s)
      by (inr ga) hb hc hd = no_more s out (4 * k) (8 * k) (8 * k + 1) a (omega arith) (omega arith) (omega arith) even
          ga ra so_far
      by (inl sa) (inr gb) hc hd = no_more s one (4 * k + 1) (8 * k + 2) (8 * k + 3) b (omega arith) (omega arith)
          (omega arith) even gb rb (after_one sa)
      by (inl sa) (inl sb) (inr gc) hd = no_more s two (4 * k + 2) (8 * k + 4) (8 * k + 5) c (omega arith) (omega arith)
          (omega arith) even gc rc (after_two sa sb)
      by (inl sa) (inl sb) (inl sc) (inr gd) = no_more s three (4 * k + 3) (8 * k + 6) (8 * k + 7) d (omega arith)
          (omega arith) (omega arith) even gd rd (after_three sa sb sc)
      by (inl sa) (inl sb) (inl sc) (inl sd) = absurd (let all : bit_or (bit_or (bit_or a b) c) d < 2 ^ 8 =
          or_lt 8 (bit_or (bit_or a b) c) d (or_lt 8 (bit_or a b) c (or_lt 8 a b sa sb) sc) sd in omega arith)
