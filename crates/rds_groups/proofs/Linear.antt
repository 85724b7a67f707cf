-- Remainders add up, and times x none is lost.
use Rattle.std.proofs.Common.{◌≡◌, ◌≢◌, ℕ, zero, suc, ◌+◌, ◌-◌, ◌*◌, ◌/◌, ◌%◌, ◌^◌, ◌<◌, ◌≤◌, refl, ap, sym, ◌∙◌, arith}
use Rattle.std.proofs.Common.{inl, inr, if◌then◌else◌}
use Rattle.std.specs.Prelude.{bit_xor, bit_and}
use Rattle.std.specs.Int.Bits.{xor_assoc, xor_zero_r}
use Rattle.std.proofs.lemmas.Nat.{xor_comm, xor_lt, xor_block, xor_shr, xor_mod, shr-shr, and_mask}
use Rattle.std.proofs.Math.Nat.{pow-suc, mul_assoc}
use Rattle.std.proofs.lemmas.Bool.{cases_lt, lt-ltb, le-ltb}
use Rattle.rds_groups.specs.Blocks.{generator, times_x, remainder, check_word}

-- ---- xor
-- (a + b) + (c + d) in another order
pub regroup : (a b c d : ℕ) → bit_xor (bit_xor a b) (bit_xor c d) ≡ bit_xor (bit_xor a c) (bit_xor b d)
regroup a b c d =
    xor_assoc a b (bit_xor c d)
    ∙ ap (bit_xor a) (sym (xor_assoc b c d) ∙ ap (λ (x : ℕ). bit_xor x d) (xor_comm b c) ∙ xor_assoc c b d)
    ∙ sym (xor_assoc a c (bit_xor b d))

-- a number in two parts
pub parts : (k a r : ℕ) → r < 2 ^ k → bit_xor (a * 2 ^ k) r ≡ a * 2 ^ k + r
parts k a r h =
    ap (λ (x : ℕ). bit_xor x r) (omega arith) ∙ ap (bit_xor (a * 2 ^ k + 0)) (omega arith)
    ∙ xor_block k a 0 0 r (omega arith) h ∙ ap (λ (x : ℕ). x * 2 ^ k + bit_xor 0 r) (xor_zero_r a)

-- twice the sum
double : (a b : ℕ) → bit_xor a b * 2 ≡ bit_xor (a * 2) (b * 2)
double a b =
    let e : bit_xor (a * 2 + 0) (b * 2 + 0) ≡ bit_xor a b * 2 + 0 = xor_block 1 a b 0 0 (omega arith) (omega arith) in
    let f : a * 2 + 0 ≡ a * 2 = omega arith in
    let g : b * 2 + 0 ≡ b * 2 = omega arith in
    let h : bit_xor a b * 2 + 0 ≡ bit_xor a b * 2 = omega arith in
    cc

-- ---- times x
low : (r : ℕ) → r < 512 → times_x r ≡ r * 2
low r h = ap (λ b. if b then r * 2 else bit_xor (r * 2) generator) (lt-ltb (r * 2) 0x400 (omega arith))

high : (r : ℕ) → 512 ≤ r → times_x r ≡ bit_xor (r * 2) generator
high r h = ap (λ b. if b then r * 2 else bit_xor (r * 2) generator) (le-ltb (r * 2) 0x400 (omega arith))

pub times_x_below : (r : ℕ) → r < 1024 → times_x r < 1024
times_x_below r h = elim (cases_lt r 512) [
  | inl a ↦ omega (arith, low r a)
  | inr a ↦
      -- above 1024 both have bit 10, and nothing higher
      let e : bit_xor (r * 2) generator ≡ bit_xor 1 1 * 2 ^ 10 + bit_xor (r * 2 - 1024) (generator - 1024) =
      ap (λ (x : ℕ). bit_xor x generator) (omega arith)
      ∙ xor_block 10 1 1 (r * 2 - 1024) (generator - 1024) (omega arith) (omega arith) in
      let small = xor_lt 10 (r * 2 - 1024) (generator - 1024) (omega arith) (omega arith) in
      omega (arith, high r a, e, small)
]

-- bit 9 of a sum
both_low : (a b : ℕ) → a < 512 → b < 512 → bit_xor a b < 512
both_low a b ha hb = xor_lt 9 a b ha hb

one_high : (a b : ℕ) → 512 ≤ a → a < 1024 → b < 512 → 512 ≤ bit_xor a b
one_high a b ha hc hb =
    let e : bit_xor (1 * 512 + (a - 512)) (0 * 512 + b) ≡ bit_xor 1 0 * 512 + bit_xor (a - 512) b =
    xor_block 9 1 0 (a - 512) b (omega arith) hb in
    let f : 1 * 512 + (a - 512) ≡ a = omega arith in
    let g : 0 * 512 + b ≡ b = omega arith in
    let h : bit_xor a b ≡ 512 + bit_xor (a - 512) b =
    ap (λ (x : ℕ). bit_xor x b) (sym f) ∙ ap (bit_xor (1 * 512 + (a - 512))) (sym g) ∙ e in
    omega arith

both_high : (a b : ℕ) → 512 ≤ a → a < 1024 → 512 ≤ b → b < 1024 → bit_xor a b < 512
both_high a b ha hc hb hd =
    let e : bit_xor (1 * 512 + (a - 512)) (1 * 512 + (b - 512)) ≡ bit_xor 1 1 * 512 + bit_xor (a - 512) (b - 512) =
    xor_block 9 1 1 (a - 512) (b - 512) (omega arith) (omega arith) in
    let f : 1 * 512 + (a - 512) ≡ a = omega arith in
    let g : 1 * 512 + (b - 512) ≡ b = omega arith in
    let h : bit_xor a b ≡ 0 * 512 + bit_xor (a - 512) (b - 512) =
    ap (λ (x : ℕ). bit_xor x b) (sym f) ∙ ap (bit_xor (1 * 512 + (a - 512))) (sym g) ∙ e in
    let small = xor_lt 9 (a - 512) (b - 512) (omega arith) (omega arith) in
    omega arith

-- x times a sum, where the first is the higher one
high_low : (a b : ℕ) → 512 ≤ a → a < 1024 → b < 512 → times_x (bit_xor a b) ≡ bit_xor (times_x a) (times_x b)
high_low a b ha hc hb =
    high (bit_xor a b) (one_high a b ha hc hb)
    ∙ ap (λ (x : ℕ). bit_xor x generator) (double a b)
    ∙ xor_assoc (a * 2) (b * 2) generator ∙ ap (bit_xor (a * 2)) (xor_comm (b * 2) generator)
    ∙ sym (xor_assoc (a * 2) generator (b * 2))
    ∙ sym (ap (λ (x : ℕ). bit_xor x (times_x b)) (high a ha) ∙ ap (bit_xor (bit_xor (a * 2) generator)) (low b hb))

pub times_x_sum : (a b : ℕ) → a < 1024 → b < 1024 → times_x (bit_xor a b) ≡ bit_xor (times_x a) (times_x b)
times_x_sum a b ha hb =
    elim (cases_lt a 512) [
      | inl la ↦ elim (cases_lt b 512) [
        | inl lb ↦ low (bit_xor a b) (both_low a b la lb) ∙ double a b
            ∙ sym (ap (λ (x : ℕ). bit_xor x (times_x b)) (low a la) ∙ ap (bit_xor (a * 2)) (low b lb))
        | inr hi ↦ ap times_x (xor_comm a b) ∙ high_low b a hi hb la ∙ xor_comm (times_x b) (times_x a)
      ]
      | inr hi ↦ elim (cases_lt b 512) [
        | inl lb ↦ high_low a b hi ha lb
        | inr hj ↦
            low (bit_xor a b) (both_high a b hi ha hj hb) ∙ double a b ∙ sym (xor_zero_r (bit_xor (a * 2) (b * 2)))
            ∙ sym (ap (λ (x : ℕ). bit_xor x (times_x b)) (high a hi)
            ∙ ap (bit_xor (bit_xor (a * 2) generator)) (high b hj) ∙ regroup (a * 2) generator (b * 2) generator)
      ]
    ]

-- The generator has a last coefficient, so x times what is not 0 is not 0.
pub times_x_not_lost : (r : ℕ) → r ≢ 0 → times_x r ≢ 0
times_x_not_lost r some none = elim (cases_lt r 512) [
  | inl a ↦ some (omega (arith, low r a))
  | inr a ↦
      let e : bit_xor (r * 2) generator % 2 ≡ bit_xor (r * 2 % 2) (generator % 2) = xor_mod (r * 2) generator 1 in
      let even : r * 2 % 2 ≡ 0 = omega arith in
      let f : bit_xor (r * 2 % 2) (generator % 2) ≡ 1 = ap (λ (x : ℕ). bit_xor x (generator % 2)) even in
      omega (arith, high r a)
]

-- ---- Remainders.
pub remainder_below : (n p : ℕ) → remainder n p < 1024
remainder_below zero p = omega arith
remainder_below (suc n) p = xor_lt 10 (times_x (remainder n (p / 2))) (p % 2)
    (times_x_below (remainder n (p / 2)) (remainder_below n (p / 2))) (omega arith)

pub remainder_sum : (n p q : ℕ) → remainder n (bit_xor p q) ≡ bit_xor (remainder n p) (remainder n q)
remainder_sum zero p q = refl
remainder_sum (suc n) p q =
    ap (λ (x : ℕ). bit_xor (times_x (remainder n x)) (bit_xor p q % 2)) (xor_shr p q 1)
    ∙ ap (bit_xor (times_x (remainder n (bit_xor (p / 2) (q / 2))))) (xor_mod p q 1)
    ∙ ap (λ (x : ℕ). bit_xor (times_x x) (bit_xor (p % 2) (q % 2))) (remainder_sum n (p / 2) (q / 2))
    ∙ ap (λ (x : ℕ). bit_xor x (bit_xor (p % 2) (q % 2)))
    (times_x_sum (remainder n (p / 2)) (remainder n (q / 2)) (remainder_below n (p / 2))
    (remainder_below n (q / 2)))
    ∙ regroup (times_x (remainder n (p / 2))) (times_x (remainder n (q / 2))) (p % 2) (q % 2)

-- a remainder is its own
pub remainder_small : (n r : ℕ) → r < 2 ^ n → r < 1024 → remainder n r ≡ r
remainder_small zero r h small = omega arith
remainder_small (suc n) r h small =
    let half : r / 2 < 2 ^ n = omega (arith, pow-suc 2 n) in
    ap (λ (x : ℕ). bit_xor (times_x x) (r % 2)) (remainder_small n (r / 2) half (omega arith))
    ∙ ap (λ (x : ℕ). bit_xor x (r % 2)) (low (r / 2) (omega arith))
    ∙ parts 1 (r / 2) (r % 2) (omega arith) ∙ omega arith

-- and x^i times what leaves a remainder leaves one
pub remainder_not_lost : (i n count p : ℕ) → count ≡ n + i → remainder n p ≢ 0 → remainder count (p * 2 ^ i) ≢ 0
remainder_not_lost zero n count p e some none =
    let f : n ≡ count = omega arith in
    let g : p ≡ p * 2 ^ 0 = omega arith in
    some (ap (λ (m : ℕ). remainder m p) f ∙ ap (remainder count) g ∙ none)
remainder_not_lost (suc i) n zero p e some none = absurd (omega arith)
remainder_not_lost (suc i) n (suc count) p e some none =
    let f : p * 2 ^ suc i ≡ p * 2 ^ i * 2 = ap (λ (x : ℕ). p * x) (pow-suc 2 i) ∙ sym (mul_assoc p (2 ^ i) 2) in
    let g : p * 2 ^ suc i / 2 ≡ p * 2 ^ i = omega arith in
    let h : p * 2 ^ suc i % 2 ≡ 0 = omega arith in
    times_x_not_lost (remainder count (p * 2 ^ i)) (remainder_not_lost i n count p (omega arith) some)
    (sym (ap (λ (x : ℕ). bit_xor (times_x (remainder count x)) (p * 2 ^ suc i % 2)) g
    ∙ ap (bit_xor (times_x (remainder count (p * 2 ^ i)))) h ∙ xor_zero_r (times_x (remainder count (p * 2 ^ i))))
    ∙ none)

-- one bit more of a number of 26 bits
pub remainder_more : (p i r : ℕ) → i < 26 → r ≡ remainder i (p / 2 ^ (26 - i))
    → bit_xor (times_x r) (bit_and (p / 2 ^ (25 - i)) 1) ≡ remainder (i + 1) (p / 2 ^ (26 - (i + 1)))
remainder_more p i r h e =
    let f : p / 2 ^ (25 - i) / 2 ≡ p / 2 ^ (26 - i) = shr-shr p (25 - i) 1 ∙ ap (λ (k : ℕ). p / 2 ^ k) (below i h) in
    let g : remainder (suc i) (p / 2 ^ (25 - i)) ≡ remainder (i + 1) (p / 2 ^ (26 - (i + 1))) =
    ap (λ (k : ℕ). remainder k (p / 2 ^ (25 - i))) (one i)
    ∙ ap (λ (k : ℕ). remainder (i + 1) (p / 2 ^ k)) (after i) in
    ap (λ (x : ℕ). bit_xor (times_x x) (bit_and (p / 2 ^ (25 - i)) 1)) (e ∙ ap (remainder i) (sym f))
    ∙ ap (bit_xor (times_x (remainder i (p / 2 ^ (25 - i) / 2)))) (and_mask (p / 2 ^ (25 - i)) 1)
    ∙ g
  where
    below : (i : ℕ) → i < 26 → 25 - i + 1 ≡ 26 - i
    below i h = omega arith

    one : (i : ℕ) → suc i ≡ i + 1
    one i = omega arith

    after : (i : ℕ) → 25 - i ≡ 26 - (i + 1)
    after i = omega arith

pub remainder_all : (i bits word r : ℕ) → i ≡ 26 → bits ≡ word * 1024 → r ≡ remainder i (bits / 2 ^ (26 - i))
    → r ≡ check_word word
remainder_all i bits word r all same e =
    let f : bits / 2 ^ (26 - i) ≡ word * 1024 = ap (λ (k : ℕ). bits / 2 ^ (26 - k)) all ∙ omega arith in
    e ∙ ap (remainder i) f ∙ ap (λ (k : ℕ). remainder k (word * 1024)) all
