-- Texts of pairs of hexadecimal digits with one space between.
use Rattle.std.proofs.Common.{◌≡◌, ◌<◌, ◌+◌, ◌*◌, ℕ, List, [], ◌∷◌, true, filter, take, drop, length, Ok, Err}
use Rattle.std.proofs.Common.{refl, ap, ◌∙◌, sym, subst, arith, slice_index, slice_set, bit_or}
use Rattle.std.proofs.lemmas.Nat.{le_or_l, le_or_r}
use Rattle.std.proofs.lemmas.List.{drop_all, drop_more, take_all, take_more_set, length-set, append-nil}
use Rattle.std.proofs.lemmas.List.Elements.{All-head, All-tail}
use Rattle.hex.specs.Hex.{decode_pairs, is_hex_digit, pair_value}
use Rattle.hex.proofs.Pairs.{cons_byte, prepend, decode_pairs-ok_pair, prepend-cons_byte}
use Rattle.hex.proofs.HexLemmas.{decode_of-even, decode_pairs-ok}
use Rattle.uecp_text.specs.Words.{bytes_in}
use Rattle.uecp_text.proofs.Pieces.{is_kept, digit_kept}
use Rattle.uecp_text.proofs.DigitValues.{Reads}

-- What is read so far is the beginning of what the text spells, its spaces taken out.
abbrev pub Spaced : (s out : List ℕ) → ℕ → Type 0
Spaced s out k =
    decode_pairs 0 (filter is_kept s) ≡ prepend (take k out) (decode_pairs (2 * k) (filter is_kept (drop (3 * k) s)))

-- two digits that read, and nothing else
pair_alone : (a b i v : ℕ) → pair_value a b i ≡ Ok v → decode_pairs i (a ∷ b ∷ []) ≡ Ok (v ∷ [])
unfolding decode_pairs
pair_alone a b i v reads = decode_pairs-ok_pair i a b v [] reads

-- neither of two digits that read is a space
pair_kept : (a b i v : ℕ) (rest : List ℕ) → pair_value a b i ≡ Ok v
    → filter is_kept (a ∷ b ∷ rest) ≡ a ∷ b ∷ filter is_kept rest
pair_kept a b i v rest reads =
    let all = (decode_pairs-ok i (a ∷ b ∷ []) (v ∷ []) (pair_alone a b i v reads)).0 in
    let first = digit_kept a (All-head (λ x. is_hex_digit x ≡ true) a (b ∷ []) all) in
    let second = digit_kept b (All-head (λ x. is_hex_digit x ≡ true) b []
    (All-tail (λ x. is_hex_digit x ≡ true) a (b ∷ []) all)) in
    rw (first, second) refl

-- a byte more, whatever stands behind its two digits
byte_on : (a b v k : ℕ) (out rest : List ℕ) → k < length out → pair_value a b (2 * k) ≡ Ok v
    → prepend (take k out) (decode_pairs (2 * k) (filter is_kept (a ∷ b ∷ rest)))
    ≡ prepend (take (k + 1) (slice_set out k v)) (decode_pairs (2 * (k + 1)) (filter is_kept rest))
byte_on a b v k out rest room reads =
    let kept : List ℕ = filter is_kept rest in
    let two : 2 * k + 2 ≡ 2 * (k + 1) = omega arith in
    ap (λ (l : List ℕ). prepend (take k out) (decode_pairs (2 * k) l)) (pair_kept a b (2 * k) v rest reads)
    ∙ ap (prepend (take k out)) (decode_pairs-ok_pair (2 * k) a b v kept reads
    ∙ ap (λ (n : ℕ). cons_byte v (decode_pairs n kept)) two)
    ∙ prepend-cons_byte (take k out) v (decode_pairs (2 * (k + 1)) kept)
    ∙ ap (λ (front : List ℕ). prepend front (decode_pairs (2 * (k + 1)) kept)) (sym (take_more_set out k v room))

-- nothing is read yet
pub spaced_start : (s out : List ℕ) → Spaced s out 0
spaced_start s out = by (decode_pairs 0 (filter is_kept s))
  where
    by : (r : _) → r ≡ prepend [] r
    by (Ok bytes) = refl
    by (Err e) = refl

-- what is left of the text, at a whole pair
drop_two : (s : List ℕ) (n : ℕ) → n + 1 < length s → drop n s ≡ slice_index s n ∷ slice_index s (n + 1) ∷ drop (n + 2) s
drop_two s n fits =
    let a = drop_more s n 0 (omega arith) in
    let b = drop_more s (n + 1) 0 (omega arith) in
    let two : n + 1 + 1 ≡ n + 2 = omega arith in
    rw (a, b, two) refl

-- a pair and the space behind it
pub one_spaced : (s out : List ℕ) (k m x y z v : ℕ) → m ≡ k + 1 → x ≡ 3 * k → y ≡ 3 * k + 1 → z ≡ 3 * k + 2
    → z < length s → k < length out → v < 256 → Reads s x y v → slice_index s z ≡ 0x20 → Spaced s out k
    → Spaced s (slice_set out k v) m
one_spaced s out k m x y z v em ex ey ez fits room small reads space so_far =
    let a : ℕ = slice_index s (3 * k) in
    let b : ℕ = slice_index s (3 * k + 1) in
    let pair : pair_value a b (2 * k) ≡ Ok v =
    (λ i. pair_value (slice_index s (sym ex i)) (slice_index s (sym ey i)) (2 * k)) ∙ reads.byte small (2 * k) in
    let three : 3 * k + 2 + 1 ≡ 3 * (k + 1) = omega arith in
    let behind : drop (3 * k + 2) s ≡ 0x20 ∷ drop (3 * (k + 1)) s =
    drop_more s (3 * k + 2) 0 (omega arith)
    ∙ ap (λ (n : ℕ). slice_index s (3 * k + 2) ∷ drop n s) three
    ∙ ap (λ (c : ℕ). c ∷ drop (3 * (k + 1)) s) (ap (slice_index s) (sym ez) ∙ space) in
    subst (λ n. Spaced s (slice_set out k v) n) (sym em)
    (so_far
    ∙ ap (λ (l : List ℕ). prepend (take k out) (decode_pairs (2 * k) (filter is_kept l)))
    (drop_two s (3 * k) (omega arith))
    ∙ byte_on a b v k out (drop (3 * k + 2) s) room pair
    ∙ ap (λ (l : List ℕ). prepend (take (k + 1) (slice_set out k v)) (decode_pairs (2 * (k + 1)) (filter is_kept l)))
    behind)

-- each of the two is a byte where both of them together are
pub two_small : (a b : ℕ) → bit_or a b < 256 → (a < 256) × (b < 256)
two_small a b small = ((let h = le_or_l a b in omega arith), (let h = le_or_r a b in omega arith))

-- two pairs, each with the space behind it
pub two_spaced : (s out : List ℕ) (k a b : ℕ) → 6 * k + 5 < length s → 2 * k + 1 < length out → bit_or a b < 256
    → Reads s (6 * k) (6 * k + 1) a → Reads s (6 * k + 3) (6 * k + 4) b → slice_index s (6 * k + 2) ≡ 0x20
    → slice_index s (6 * k + 5) ≡ 0x20 → Spaced s out (2 * k)
    → Spaced s (slice_set (slice_set out (2 * k) a) (2 * k + 1) b) (2 * (k + 1))
two_spaced s out k a b fits room small ra rb first second so_far =
    let len : length (slice_set out (2 * k) a) ≡ length out = length-set out (2 * k) a in
    let each = two_small a b small in
    one_spaced s (slice_set out (2 * k) a) (2 * k + 1) (2 * (k + 1)) (6 * k + 3) (6 * k + 4) (6 * k + 5) b
    (omega arith) (omega arith) (omega arith) (omega arith) (omega arith) (omega (arith, len)) each.1 rb second
    (one_spaced s out (2 * k) (2 * k + 1) (6 * k) (6 * k + 1) (6 * k + 2) a (omega arith) (omega arith) (omega arith)
    (omega arith) (omega arith) (omega arith) each.0 ra first so_far)

-- the last pair, with nothing behind it
pub last_spaced : (s out : List ℕ) (k x y v : ℕ) → x ≡ 3 * k → y ≡ 3 * k + 1 → length s ≡ 3 * k + 2
    → length out ≡ k + 1 → v < 256 → Reads s x y v → Spaced s out k → bytes_in s ≡ Ok (slice_set out k v)
unfolding decode_pairs
last_spaced s out k x y v ex ey fits room small reads so_far =
    let a : ℕ = slice_index s (3 * k) in
    let b : ℕ = slice_index s (3 * k + 1) in
    let whole : List ℕ = slice_set out k v in
    let pair : pair_value a b (2 * k) ≡ Ok v =
    (λ i. pair_value (slice_index s (sym ex i)) (slice_index s (sym ey i)) (2 * k)) ∙ reads.byte small (2 * k) in
    let len : length whole ≡ length out = length-set out k v in
    let pairs : decode_pairs 0 (filter is_kept s) ≡ Ok whole =
    so_far
    ∙ ap (λ (l : List ℕ). prepend (take k out) (decode_pairs (2 * k) (filter is_kept l)))
    (drop_two s (3 * k) (omega arith))
    ∙ byte_on a b v k out (drop (3 * k + 2) s) (omega arith) pair
    ∙ ap (λ (l : List ℕ). prepend (take (k + 1) whole) (decode_pairs (2 * (k + 1)) (filter is_kept l)))
    (drop_all (3 * k + 2) s (omega arith))
    ∙ ap Ok (append-nil (take (k + 1) whole) ∙ take_all (k + 1) whole (omega (arith, len))) in
    let even = (decode_pairs-ok 0 (filter is_kept s) whole pairs).1 in
    decode_of-even (filter is_kept s) (omega (arith, even)) ∙ pairs
