-- The four blocks as one number of 104 bits, and what bits make of it.
use Rattle.std.proofs.Common.{◌≡◌, ℕ, zero, suc, ◌+◌, ◌*◌, ◌/◌, ◌%◌, ◌^◌, ◌<◌, ◌==◌, Bool, List, [], ◌∷◌, ◌++◌}
use Rattle.std.proofs.Common.{refl, ap, sym, ◌∙◌, arith, slice_index, drop}
use Rattle.std.proofs.lemmas.Nat.{mod-pow-add}
use Rattle.std.proofs.Math.Nat.{pow-suc}
use Rattle.rds_groups.specs.Groups.{bit, has_bit}
use Rattle.rds_groups.proofs.GroupProofs.{bit_small}
use Rattle.rds_groups.specs.Sync.{shifted, pushed, oldest}
use Rattle.rds_groups.specs.SynchroniserLaws.{bits_in}

-- The blocks after these bits.
abbrev pub shifted_all : List Bool → List ℕ → List ℕ
shifted_all [] blocks = blocks
shifted_all (b ∷ bs) blocks = shifted_all bs (shifted b blocks)

-- ---- As one number.
joined : (a b c d : ℕ) → ℕ
joined a b c d = ((a * 2 ^ 26 + b) * 2 ^ 26 + c) * 2 ^ 26 + d

-- the last 26 bits of each block
last_of : (blocks : List ℕ) → (place : ℕ) → ℕ
last_of blocks place = slice_index blocks place % 2 ^ 26

window : (blocks : List ℕ) → ℕ
window blocks = joined (last_of blocks 0) (last_of blocks 1) (last_of blocks 2) (last_of blocks 3)

-- what so many bits make of a number
value : List Bool → ℕ → ℕ
value [] x = x
value (b ∷ bs) x = value bs (x * 2 + bit b)

-- in two parts, the oldest bit and the others, the window moves on by one
moved : (oa a ob b oc c od d e x : ℕ) → a < 2 ^ 25 → b < 2 ^ 25 → c < 2 ^ 25 → d < 2 ^ 25
    → ob < 2 → oc < 2 → od < 2 → e < 2
    → joined (oa * 2 ^ 25 + a) (ob * 2 ^ 25 + b) (oc * 2 ^ 25 + c) (od * 2 ^ 25 + d) ≡ x % 2 ^ 104
    → joined (a * 2 + ob) (b * 2 + oc) (c * 2 + od) (d * 2 + e) ≡ (x * 2 + e) % 2 ^ 104
unfolding joined
moved oa a ob b oc c od d e x ha hb hc hd hob hoc hod he same = omega arith

parted : (block : ℕ) → block % 2 ^ 26 ≡ oldest block * 2 ^ 25 + block % 2 ^ 25
parted block = omega arith

last_pushed : (block e : ℕ) → e < 2 → pushed block e % 2 ^ 26 ≡ block % 2 ^ 25 * 2 + e
last_pushed block e h = omega arith

oldest_small : (block : ℕ) → oldest block < 2
oldest_small block = omega arith

rest_small : (block : ℕ) → block % 2 ^ 25 < 2 ^ 25
rest_small block = omega arith

joined_along : (a b c d a' b' c' d' : ℕ) → a ≡ a' → b ≡ b' → c ≡ c' → d ≡ d' → joined a b c d ≡ joined a' b' c' d'
joined_along a b c d a' b' c' d' ea eb ec ed = cc

bit_below : (b : Bool) → bit b < 2
bit_below b = let h = bit_small b in omega arith

one_more : (b : Bool) (blocks : List ℕ) (x : ℕ) → window blocks ≡ x % 2 ^ 104
    → window (shifted b blocks) ≡ (x * 2 + bit b) % 2 ^ 104
unfolding window last_of
one_more b blocks x same =
    let first = slice_index blocks 0 in let second = slice_index blocks 1 in
    let third = slice_index blocks 2 in let fourth = slice_index blocks 3 in
    joined_along _ _ _ _ _ _ _ _
    (last_pushed first (oldest second) (oldest_small second)) (last_pushed second (oldest third) (oldest_small third))
    (last_pushed third (oldest fourth) (oldest_small fourth)) (last_pushed fourth (bit b) (bit_below b))
    ∙ moved (oldest first) (first % 2 ^ 25) (oldest second) (second % 2 ^ 25) (oldest third) (third % 2 ^ 25)
    (oldest fourth) (fourth % 2 ^ 25) (bit b) x (rest_small first) (rest_small second) (rest_small third)
    (rest_small fourth) (oldest_small second) (oldest_small third) (oldest_small fourth) (bit_below b)
    (sym (joined_along _ _ _ _ _ _ _ _ (parted first) (parted second) (parted third) (parted fourth)) ∙ same)

more : (bs : List Bool) (blocks : List ℕ) (x : ℕ) → window blocks ≡ x % 2 ^ 104
    → window (shifted_all bs blocks) ≡ value bs x % 2 ^ 104
unfolding value
more [] blocks x same = same
more (b ∷ bs) blocks x same = more bs (shifted b blocks) (x * 2 + bit b) (one_more b blocks x same)

-- ---- The bits of a block.
bits_from : (count block : ℕ) → List Bool
bits_from zero block = []
bits_from (suc count) block = has_bit (2 ^ count) block ∷ bits_from count block

bit_back : (n : ℕ) → n < 2 → bit (n == 1) ≡ n
bit_back zero h = refl
bit_back (suc zero) h = refl
bit_back (suc (suc n)) h = absurd (omega arith)

value_from : (count block : ℕ) (bs : List Bool) (x : ℕ)
    → value (bits_from count block ++ bs) x ≡ value bs (x * 2 ^ count + block % 2 ^ count)
unfolding value bits_from
value_from zero block bs x = ap (value bs) (omega arith)
value_from (suc n) block bs x =
    let one : bit (has_bit (2 ^ n) block) ≡ block / 2 ^ n % 2 = bit_back (block / 2 ^ n % 2) (omega arith) in
    let two : block % 2 ^ (1 + n) ≡ block / 2 ^ n % 2 ^ 1 * 2 ^ n + block % 2 ^ n = mod-pow-add block 1 n in
    let three : 1 + n ≡ suc n = omega arith in
    let four : block % 2 ^ suc n ≡ block / 2 ^ n % 2 * 2 ^ n + block % 2 ^ n =
    ap (λ (k : ℕ). block % 2 ^ k) (sym three) ∙ two in
    value_from n block bs (x * 2 + bit (has_bit (2 ^ n) block))
    ∙ ap (value bs) (ap (λ (k : ℕ). (x * 2 + k) * 2 ^ n + block % 2 ^ n) one
    ∙ together x (block / 2 ^ n % 2) (2 ^ n) (block % 2 ^ n)
    ∙ ap (λ (k : ℕ). x * k + (block / 2 ^ n % 2 * 2 ^ n + block % 2 ^ n)) (sym (pow-suc 2 n))
    ∙ ap (λ (k : ℕ). x * 2 ^ suc n + k) (sym four))
  where
    together : (x e p r : ℕ) → (x * 2 + e) * p + r ≡ x * (p * 2) + (e * p + r)
    together x e p r = omega arith

-- ---- The bits of four blocks.
in_turn : (a b c d : ℕ) → bits_in (a ∷ b ∷ c ∷ d ∷ [])
    ≡ bits_from 26 a ++ (bits_from 26 b ++ (bits_from 26 c ++ (bits_from 26 d ++ [])))
unfolding bits_from
in_turn a b c d = refl

value_in : (a b c d x : ℕ) → value (bits_in (a ∷ b ∷ c ∷ d ∷ [])) x
    ≡ (((x * 2 ^ 26 + a % 2 ^ 26) * 2 ^ 26 + b % 2 ^ 26) * 2 ^ 26 + c % 2 ^ 26) * 2 ^ 26 + d % 2 ^ 26
unfolding value
value_in a b c d x =
    let one = x * 2 ^ 26 + a % 2 ^ 26 in
    let two = one * 2 ^ 26 + b % 2 ^ 26 in
    let three = two * 2 ^ 26 + c % 2 ^ 26 in
    ap (λ bs. value bs x) (in_turn a b c d)
    ∙ value_from 26 a (bits_from 26 b ++ (bits_from 26 c ++ (bits_from 26 d ++ []))) x
    ∙ value_from 26 b (bits_from 26 c ++ (bits_from 26 d ++ [])) one
    ∙ value_from 26 c (bits_from 26 d ++ []) two
    ∙ value_from 26 d [] three

-- ---- So four blocks that come are the window.
pub record IsWindow (blocks : List ℕ) : Type 0 where
  pub first : ℕ
  pub second : ℕ
  pub third : ℕ
  pub fourth : ℕ
  pub is : blocks ≡ first ∷ second ∷ third ∷ fourth ∷ []
  pub first_small : first < 2 ^ 26
  pub second_small : second < 2 ^ 26
  pub third_small : third < 2 ^ 26
  pub fourth_small : fourth < 2 ^ 26

pushed_small : (block e : ℕ) → e < 2 → pushed block e < 2 ^ 26
pushed_small block e h = omega arith

window_of_one : (b : Bool) (blocks : List ℕ) → IsWindow (shifted b blocks)
window_of_one b blocks = record {
  first = pushed (slice_index blocks 0) (oldest (slice_index blocks 1));
  second = pushed (slice_index blocks 1) (oldest (slice_index blocks 2));
  third = pushed (slice_index blocks 2) (oldest (slice_index blocks 3));
  fourth = pushed (slice_index blocks 3) (bit b);
  is = refl;
  first_small = pushed_small _ _ (oldest_small (slice_index blocks 1));
  second_small = pushed_small _ _ (oldest_small (slice_index blocks 2));
  third_small = pushed_small _ _ (oldest_small (slice_index blocks 3));
  fourth_small = pushed_small _ _ (bit_below b);
}

window_of_all : (bs : List Bool) (blocks : List ℕ) → IsWindow blocks → IsWindow (shifted_all bs blocks)
window_of_all [] blocks is = is
window_of_all (b ∷ bs) blocks is = window_of_all bs (shifted b blocks) (window_of_one b blocks)

-- each block by itself
same_first : (a b c d w x y z : ℕ) → b < 2 ^ 26 → c < 2 ^ 26 → d < 2 ^ 26 → x < 2 ^ 26 → y < 2 ^ 26 → z < 2 ^ 26
    → joined a b c d ≡ joined w x y z → a ≡ w
unfolding joined
same_first a b c d w x y z hb hc hd hx hy hz e = omega arith

same_second : (a b c d x y z : ℕ) → c < 2 ^ 26 → d < 2 ^ 26 → y < 2 ^ 26 → z < 2 ^ 26
    → joined a b c d ≡ joined a x y z → b ≡ x
unfolding joined
same_second a b c d x y z hc hd hy hz e = omega arith

same_third : (a b c d y z : ℕ) → d < 2 ^ 26 → z < 2 ^ 26 → joined a b c d ≡ joined a b y z → c ≡ y
unfolding joined
same_third a b c d y z hd hz e = omega arith

same_fourth : (a b c d z : ℕ) → joined a b c d ≡ joined a b c z → d ≡ z
unfolding joined
same_fourth a b c d z e = omega arith

-- 104 bits fill the window
filled : (a b c d x : ℕ) → a < 2 ^ 26 → b < 2 ^ 26 → c < 2 ^ 26 → d < 2 ^ 26
    → value (bits_in (a ∷ b ∷ c ∷ d ∷ [])) x % 2 ^ 104 ≡ joined a b c d
unfolding joined
filled a b c d x ha hb hc hd = ap (λ (n : ℕ). n % 2 ^ 104) (value_in a b c d x) ∙ over a b c d x ha hb hc hd
  where
    over : (a b c d x : ℕ) → a < 2 ^ 26 → b < 2 ^ 26 → c < 2 ^ 26 → d < 2 ^ 26
        → ((((x * 2 ^ 26 + a % 2 ^ 26) * 2 ^ 26 + b % 2 ^ 26) * 2 ^ 26 + c % 2 ^ 26) * 2 ^ 26 + d % 2 ^ 26) % 2 ^ 104
        ≡ ((a * 2 ^ 26 + b) * 2 ^ 26 + c) * 2 ^ 26 + d
    over a b c d x ha hb hc hd = omega arith

small_is_last : (n : ℕ) → n < 2 ^ 26 → n % 2 ^ 26 ≡ n
small_is_last n h = omega arith

-- a window of four small blocks, as one number
window_is : (w x y z : ℕ) → w < 2 ^ 26 → x < 2 ^ 26 → y < 2 ^ 26 → z < 2 ^ 26
    → window (w ∷ x ∷ y ∷ z ∷ []) ≡ joined w x y z
unfolding window last_of
window_is w x y z hw hx hy hz =
    joined_along _ _ _ _ _ _ _ _ (small_is_last w hw) (small_is_last x hx) (small_is_last y hy) (small_is_last z hz)

window_below : (blocks : List ℕ) → window blocks < 2 ^ 104
unfolding window last_of joined
window_below blocks = omega arith

same_blocks : (a b c d : ℕ) (blocks : List ℕ) → a < 2 ^ 26 → b < 2 ^ 26 → c < 2 ^ 26 → d < 2 ^ 26 → IsWindow blocks
    → window blocks ≡ joined a b c d → blocks ≡ a ∷ b ∷ c ∷ d ∷ []
same_blocks a b c d blocks ha hb hc hd is e =
    let same : joined is.first is.second is.third is.fourth ≡ joined a b c d =
    sym (window_is is.first is.second is.third is.fourth is.first_small is.second_small is.third_small is.fourth_small)
    ∙ sym (ap window is.is) ∙ e in
    let one : is.first ≡ a = same_first _ _ _ _ _ _ _ _ is.second_small is.third_small is.fourth_small hb hc hd same in
    let same2 : joined a is.second is.third is.fourth ≡ joined a b c d =
    ap (λ (n : ℕ). joined n is.second is.third is.fourth) (sym one) ∙ same in
    let two : is.second ≡ b = same_second _ _ _ _ _ _ _ is.third_small is.fourth_small hc hd same2 in
    let same3 : joined a b is.third is.fourth ≡ joined a b c d =
    ap (λ (n : ℕ). joined a n is.third is.fourth) (sym two) ∙ same2 in
    let three : is.third ≡ c = same_third _ _ _ _ _ _ is.fourth_small hd same3 in
    let same4 : joined a b c is.fourth ≡ joined a b c d =
    ap (λ (n : ℕ). joined a b n is.fourth) (sym three) ∙ same3 in
    let four : is.fourth ≡ d = same_fourth _ _ _ _ _ same4 in
    is.is ∙ (λ i. one i ∷ two i ∷ three i ∷ four i ∷ [])

pub comes_in : (a b c d : ℕ) (blocks : List ℕ) → a < 2 ^ 26 → b < 2 ^ 26 → c < 2 ^ 26 → d < 2 ^ 26
    → shifted_all (bits_in (a ∷ b ∷ c ∷ d ∷ [])) blocks ≡ a ∷ b ∷ c ∷ d ∷ []
comes_in a b c d blocks ha hb hc hd =
    let bs = bits_in (a ∷ b ∷ c ∷ d ∷ []) in
    let below = window_below blocks in
    let start : window blocks ≡ window blocks % 2 ^ 104 = omega arith in
    same_blocks a b c d (shifted_all bs blocks) ha hb hc hd
    (window_of_all (drop 1 bs) (shifted (has_bit (2 ^ 25) a) blocks) (window_of_one (has_bit (2 ^ 25) a) blocks))
    (more bs blocks (window blocks) start ∙ filled a b c d (window blocks) ha hb hc hd)
