-- What is found: an error leaves a remainder, and then no word is read.
use Rattle.std.proofs.Common.{◌≡◌, ◌≢◌, ℕ, ◌+◌, ◌-◌, ◌*◌, ◌/◌, ◌%◌, ◌^◌, ◌<◌, ◌≤◌, Bool, true, false, Some, None, refl}
use Rattle.std.proofs.Common.{ap, sym, ◌∙◌, subst, arith, ◌==◌, if◌then◌else◌}
use Rattle.std.specs.Prelude.{bit_xor}
use Rattle.std.specs.Int.Bits.{xor_assoc, xor_self, xor_zero_l}
use Rattle.std.proofs.lemmas.Nat.{xor_lt, pow_below}
use Rattle.std.proofs.Math.Nat.{one-mul}
use Rattle.std.proofs.Math.Pow.{pow_mono}
use Rattle.std.proofs.lemmas.Bool.{eq-eqb, ne_eqb, eqb-false, agree_below, agree_below_at}
use Rattle.rds_groups.specs.Blocks.{remainder, check_word, block, word_of}
use Rattle.rds_groups.specs.Laws.{IsFound, ReadsBack, IsTold, OneIsFound, TwoAreFound, BurstIsFound}
use Rattle.rds_groups.proofs.Linear.{parts, remainder_below, remainder_sum, remainder_small, remainder_not_lost}

cancel : (a b : ℕ) → bit_xor a (bit_xor a b) ≡ b
cancel a b = sym (xor_assoc a a b) ∙ ap (λ (x : ℕ). bit_xor x b) (xor_self a) ∙ xor_zero_l b

-- of a word and ten bits after it
remainder_parts : (w c : ℕ) → c < 1024 → remainder 26 (w * 1024 + c) ≡ bit_xor (check_word w) c
remainder_parts w c h =
    ap (remainder 26) (sym (parts 10 w c h)) ∙ remainder_sum 26 (w * 1024) c
    ∙ ap (bit_xor (check_word w)) (remainder_small 26 c (omega arith) h)

check_small : (w offset : ℕ) → offset < 1024 → bit_xor (check_word w) offset < 1024
check_small w offset h = xor_lt 10 (check_word w) offset (remainder_below 26 (w * 1024)) h

-- a block leaves its offset word
block_leaves : (w offset : ℕ) → offset < 1024 → remainder 26 (block w offset) ≡ offset
block_leaves w offset h = remainder_parts w (bit_xor (check_word w) offset) (check_small w offset h)
    ∙ cancel (check_word w) offset

-- and what leaves another is not read
not_read : (bits offset : ℕ) → remainder 26 bits ≢ offset → word_of bits offset ≡ None
not_read bits offset other =
    ap (λ b. if b then Some (bits / 1024) else None)
    (ne_eqb (bit_xor (check_word (bits / 1024)) offset) (bits % 1024) (λ e.
    let whole : bits ≡ bits / 1024 * 1024 + bits % 1024 = omega arith in
    other (ap (remainder 26) whole ∙ remainder_parts (bits / 1024) (bits % 1024) (omega arith)
    ∙ ap (bit_xor (check_word (bits / 1024))) (sym e) ∙ cancel (check_word (bits / 1024)) offset)))

-- what leaves a remainder is found
found : (wrong : ℕ) → remainder 26 wrong ≢ 0 → IsFound wrong
found wrong some word offset hw ho =
    not_read (bit_xor (block word offset) wrong) offset (λ e.
    let f = sym (remainder_sum 26 (block word offset) wrong
    ∙ ap (λ (x : ℕ). bit_xor x (remainder 26 wrong)) (block_leaves word offset ho)) ∙ e in
    some (sym (cancel offset (remainder 26 wrong)) ∙ ap (bit_xor offset) f ∙ xor_self offset))

pub reads_back : ReadsBack
reads_back word offset hw ho =
    let small = check_small word offset ho in
    let e : block word offset / 1024 ≡ word = omega arith in
    let f : block word offset % 1024 ≡ bit_xor (check_word word) offset = omega arith in
    ap (λ (w : ℕ). if bit_xor (check_word w) offset == block word offset % 1024 then Some w else None) e
    ∙ ap (λ b. if b then Some word else None) (eq-eqb (bit_xor (check_word word) offset) (block word offset % 1024)
    (sym f))

pub burst_is_found : BurstIsFound
burst_is_found burst i some small h =
    let wide : 2 ^ 10 ≤ 2 ^ (26 - i) = pow_mono {i = 10} {j = 26 - i} (omega arith) in
    found (burst * 2 ^ i) (remainder_not_lost i (26 - i) 26 burst (omega arith) (λ none.
    let e = remainder_small (26 - i) burst (omega arith) small in omega arith))

-- one bit is 1 with nothing after it
pub one_is_found : OneIsFound
one_is_found i h =
    let wide = pow_below 0 (26 - i) (omega arith) in
    subst IsFound (one-mul (2 ^ i)) (found (1 * 2 ^ i) (remainder_not_lost i (26 - i) 26 1 (omega arith) (λ none.
    let e = remainder_small (26 - i) 1 (omega arith) (omega arith) in omega arith)))

-- the 325 pairs are computed
leaves_none : (i j : ℕ) → Bool
leaves_none i j = remainder 26 (2 ^ i + 2 ^ j) == 0

none_of_pairs : agree_below (λ j. agree_below (λ i. leaves_none i j) (λ i. false) j) (λ j. true) 26 ≡ true
unfolding leaves_none
none_of_pairs = refl

pub two_are_found : TwoAreFound
unfolding leaves_none
two_are_found i j before h =
    found (2 ^ i + 2 ^ j) (eqb-false (remainder 26 (2 ^ i + 2 ^ j)) 0
    (agree_below_at (λ i'. leaves_none i' j) (λ i'. false) j i
    (agree_below_at (λ j'. agree_below (λ i'. leaves_none i' j') (λ i'. false) j') (λ j'. true) 26 j none_of_pairs h)
    before))

pub is_told : IsTold
is_told word offset other hw ho apart =
    not_read (block word offset) other (λ e. apart (sym (block_leaves word offset ho) ∙ e))
