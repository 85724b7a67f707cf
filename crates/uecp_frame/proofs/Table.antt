-- The tables of the check: one step for eight bits, and one for the first eight of sixteen.
use Rattle.std.proofs.Common.{◌≡◌, ◌<◌, ◌+◌, ◌*◌, ◌/◌, ◌%◌, ℕ, List, [], ◌∷◌, refl, ◌∙◌, ap, sym, fold, map, replicate}
use Rattle.std.proofs.Common.{arith, get_or, subst}
use Rattle.std.specs.List.{range_with_len, AllByRecursion}
use Rattle.std.proofs.lemmas.Nat.Bits.{bit_at-lt}
use Rattle.std.specs.Prelude.{bit_xor, zero, suc, ◌^◌}
use Rattle.std.specs.Int.Bits.{xor_assoc, xor_zero_r, xor_zero_l, xor_self, xor_shifted}
use Rattle.std.proofs.lemmas.Nat.{xor_comm, xor_lt, xor_shr, xor_mod, xor_block}
use Rattle.uecp_frame.specs.Check.{with_bit, bits}

abbrev zeros : List ℕ
zeros = 0 ∷ 0 ∷ 0 ∷ 0 ∷ 0 ∷ 0 ∷ 0 ∷ 0 ∷ []

abbrev entry : ℕ → ℕ
entry i = fold with_bit (i * 256) zeros

abbrev table : List ℕ
table = 0x0000 ∷ 0x1021 ∷ 0x2042 ∷ 0x3063 ∷ 0x4084 ∷ 0x50A5 ∷ 0x60C6 ∷ 0x70E7 ∷ 0x8108 ∷ 0x9129 ∷ 0xA14A ∷ 0xB16B
    ∷ 0xC18C ∷ 0xD1AD ∷ 0xE1CE ∷ 0xF1EF ∷ 0x1231 ∷ 0x0210 ∷ 0x3273 ∷ 0x2252 ∷ 0x52B5 ∷ 0x4294 ∷ 0x72F7 ∷ 0x62D6 ∷ 0x9339
    ∷ 0x8318 ∷ 0xB37B ∷ 0xA35A ∷ 0xD3BD ∷ 0xC39C ∷ 0xF3FF ∷ 0xE3DE ∷ 0x2462 ∷ 0x3443 ∷ 0x0420 ∷ 0x1401 ∷ 0x64E6 ∷ 0x74C7
    ∷ 0x44A4 ∷ 0x5485 ∷ 0xA56A ∷ 0xB54B ∷ 0x8528 ∷ 0x9509 ∷ 0xE5EE ∷ 0xF5CF ∷ 0xC5AC ∷ 0xD58D ∷ 0x3653 ∷ 0x2672 ∷ 0x1611
    ∷ 0x0630 ∷ 0x76D7 ∷ 0x66F6 ∷ 0x5695 ∷ 0x46B4 ∷ 0xB75B ∷ 0xA77A ∷ 0x9719 ∷ 0x8738 ∷ 0xF7DF ∷ 0xE7FE ∷ 0xD79D ∷ 0xC7BC
    ∷ 0x48C4 ∷ 0x58E5 ∷ 0x6886 ∷ 0x78A7 ∷ 0x0840 ∷ 0x1861 ∷ 0x2802 ∷ 0x3823 ∷ 0xC9CC ∷ 0xD9ED ∷ 0xE98E ∷ 0xF9AF ∷ 0x8948
    ∷ 0x9969 ∷ 0xA90A ∷ 0xB92B ∷ 0x5AF5 ∷ 0x4AD4 ∷ 0x7AB7 ∷ 0x6A96 ∷ 0x1A71 ∷ 0x0A50 ∷ 0x3A33 ∷ 0x2A12 ∷ 0xDBFD ∷ 0xCBDC
    ∷ 0xFBBF ∷ 0xEB9E ∷ 0x9B79 ∷ 0x8B58 ∷ 0xBB3B ∷ 0xAB1A ∷ 0x6CA6 ∷ 0x7C87 ∷ 0x4CE4 ∷ 0x5CC5 ∷ 0x2C22 ∷ 0x3C03 ∷ 0x0C60
    ∷ 0x1C41 ∷ 0xEDAE ∷ 0xFD8F ∷ 0xCDEC ∷ 0xDDCD ∷ 0xAD2A ∷ 0xBD0B ∷ 0x8D68 ∷ 0x9D49 ∷ 0x7E97 ∷ 0x6EB6 ∷ 0x5ED5 ∷ 0x4EF4
    ∷ 0x3E13 ∷ 0x2E32 ∷ 0x1E51 ∷ 0x0E70 ∷ 0xFF9F ∷ 0xEFBE ∷ 0xDFDD ∷ 0xCFFC ∷ 0xBF1B ∷ 0xAF3A ∷ 0x9F59 ∷ 0x8F78 ∷ 0x9188
    ∷ 0x81A9 ∷ 0xB1CA ∷ 0xA1EB ∷ 0xD10C ∷ 0xC12D ∷ 0xF14E ∷ 0xE16F ∷ 0x1080 ∷ 0x00A1 ∷ 0x30C2 ∷ 0x20E3 ∷ 0x5004 ∷ 0x4025
    ∷ 0x7046 ∷ 0x6067 ∷ 0x83B9 ∷ 0x9398 ∷ 0xA3FB ∷ 0xB3DA ∷ 0xC33D ∷ 0xD31C ∷ 0xE37F ∷ 0xF35E ∷ 0x02B1 ∷ 0x1290 ∷ 0x22F3
    ∷ 0x32D2 ∷ 0x4235 ∷ 0x5214 ∷ 0x6277 ∷ 0x7256 ∷ 0xB5EA ∷ 0xA5CB ∷ 0x95A8 ∷ 0x8589 ∷ 0xF56E ∷ 0xE54F ∷ 0xD52C ∷ 0xC50D
    ∷ 0x34E2 ∷ 0x24C3 ∷ 0x14A0 ∷ 0x0481 ∷ 0x7466 ∷ 0x6447 ∷ 0x5424 ∷ 0x4405 ∷ 0xA7DB ∷ 0xB7FA ∷ 0x8799 ∷ 0x97B8 ∷ 0xE75F
    ∷ 0xF77E ∷ 0xC71D ∷ 0xD73C ∷ 0x26D3 ∷ 0x36F2 ∷ 0x0691 ∷ 0x16B0 ∷ 0x6657 ∷ 0x7676 ∷ 0x4615 ∷ 0x5634 ∷ 0xD94C ∷ 0xC96D
    ∷ 0xF90E ∷ 0xE92F ∷ 0x99C8 ∷ 0x89E9 ∷ 0xB98A ∷ 0xA9AB ∷ 0x5844 ∷ 0x4865 ∷ 0x7806 ∷ 0x6827 ∷ 0x18C0 ∷ 0x08E1 ∷ 0x3882
    ∷ 0x28A3 ∷ 0xCB7D ∷ 0xDB5C ∷ 0xEB3F ∷ 0xFB1E ∷ 0x8BF9 ∷ 0x9BD8 ∷ 0xABBB ∷ 0xBB9A ∷ 0x4A75 ∷ 0x5A54 ∷ 0x6A37 ∷ 0x7A16
    ∷ 0x0AF1 ∷ 0x1AD0 ∷ 0x2AB3 ∷ 0x3A92 ∷ 0xFD2E ∷ 0xED0F ∷ 0xDD6C ∷ 0xCD4D ∷ 0xBDAA ∷ 0xAD8B ∷ 0x9DE8 ∷ 0x8DC9 ∷ 0x7C26
    ∷ 0x6C07 ∷ 0x5C64 ∷ 0x4C45 ∷ 0x3CA2 ∷ 0x2C83 ∷ 0x1CE0 ∷ 0x0CC1 ∷ 0xEF1F ∷ 0xFF3E ∷ 0xCF5D ∷ 0xDF7C ∷ 0xAF9B ∷ 0xBFBA
    ∷ 0x8FD9 ∷ 0x9FF8 ∷ 0x6E17 ∷ 0x7E36 ∷ 0x4E55 ∷ 0x5E74 ∷ 0x2E93 ∷ 0x3EB2 ∷ 0x0ED1 ∷ 0x1EF0 ∷ []

table_is : map entry (range_with_len 0 256) ≡ table
unfolding with_bit
table_is = refl

cancelled : map (λ (i : ℕ). fold with_bit (i * 256) (bits i)) (range_with_len 0 256) ≡ replicate 256 0
unfolding with_bit bits
cancelled = refl

-- ---- one bit is linear in register and bit
doubled : (r s : ℕ) → 2 * bit_xor r s ≡ bit_xor (2 * r) (2 * s)
doubled r s =
    let e : r * 2 ^ 1 + 0 ≡ 2 * r = omega arith in
    let f : s * 2 ^ 1 + 0 ≡ 2 * s = omega arith in
    let g : 2 * bit_xor r s ≡ bit_xor r s * 2 ^ 1 + bit_xor 0 0 = omega arith in
    g ∙ sym (xor_block 1 r s 0 0 (omega arith) (omega arith)) ∙ ap (λ x. bit_xor x (s * 2 ^ 1 + 0)) e
    ∙ ap (λ x. bit_xor (2 * r) x) f

with_bit-is : (r c t : ℕ) → t ≡ r / 0x8000 → t < 2 → c < 2
    → with_bit r c ≡ bit_xor (2 * r % 0x10000) (0x1021 * bit_xor t c)
unfolding with_bit
with_bit-is r zero zero e h k = rw (sym e) (sym (xor_zero_r (2 * r % 0x10000)))
with_bit-is r (suc zero) zero e h k = rw (sym e) refl
with_bit-is r zero (suc zero) e h k = rw (sym e) refl
with_bit-is r (suc zero) (suc zero) e h k = rw (sym e) (sym (xor_zero_r (2 * r % 0x10000)))
with_bit-is r (suc (suc c)) t e h k = absurd (omega arith)
with_bit-is r zero (suc (suc t)) e h k = absurd (omega arith)
with_bit-is r (suc zero) (suc (suc t)) e h k = absurd (omega arith)

masks : (t u : ℕ) → t < 2 → u < 2 → 0x1021 * bit_xor t u ≡ bit_xor (0x1021 * t) (0x1021 * u)
masks zero zero h k = refl
masks zero (suc zero) h k = refl
masks (suc zero) zero h k = refl
masks (suc zero) (suc zero) h k = refl
masks (suc (suc t)) u h k = absurd (omega arith)
masks zero (suc (suc u)) h k = absurd (omega arith)
masks (suc zero) (suc (suc u)) h k = absurd (omega arith)

swap : (a b c d : ℕ) → bit_xor (bit_xor a b) (bit_xor c d) ≡ bit_xor (bit_xor a c) (bit_xor b d)
swap a b c d =
    xor_assoc a b (bit_xor c d) ∙ ap (bit_xor a) (sym (xor_assoc b c d) ∙ ap (λ x. bit_xor x d) (xor_comm b c)
    ∙ xor_assoc c b d) ∙ sym (xor_assoc a c (bit_xor b d))

linear : (r s c d : ℕ) → r < 0x10000 → s < 0x10000 → c < 2 → d < 2
    → with_bit (bit_xor r s) (bit_xor c d) ≡ bit_xor (with_bit r c) (with_bit s d)
linear r s c d hr hs hc hd =
    let t = r / 0x8000 in
    let u = s / 0x8000 in
    let ht : t < 2 = omega arith in
    let hu : u < 2 = omega arith in
    with_bit-is (bit_xor r s) (bit_xor c d) (bit_xor t u) (sym (xor_shr r s 15)) (xor_lt 1 t u ht hu)
    (xor_lt 1 c d hc hd)
    ∙ ap (λ x. bit_xor (x % 0x10000) (0x1021 * bit_xor (bit_xor t u) (bit_xor c d))) (doubled r s)
    ∙ ap (λ x. bit_xor x (0x1021 * bit_xor (bit_xor t u) (bit_xor c d))) (xor_mod (2 * r) (2 * s) 16)
    ∙ ap (λ x. bit_xor (bit_xor (2 * r % 0x10000) (2 * s % 0x10000)) (0x1021 * x)) (swap t u c d)
    ∙ ap (λ x. bit_xor (bit_xor (2 * r % 0x10000) (2 * s % 0x10000)) x)
    (masks (bit_xor t c) (bit_xor u d) (xor_lt 1 t c ht hc) (xor_lt 1 u d hu hd))
    ∙ swap (2 * r % 0x10000) (2 * s % 0x10000) (0x1021 * bit_xor t c) (0x1021 * bit_xor u d)
    ∙ ap (λ x. bit_xor x (bit_xor (2 * s % 0x10000) (0x1021 * bit_xor u d))) (sym (with_bit-is r c t refl ht hc))
    ∙ ap (λ x. bit_xor (with_bit r c) x) (sym (with_bit-is s d u refl hu hd))

low : map (λ (i : ℕ). fold with_bit i zeros) (range_with_len 0 256) ≡ map (λ (i : ℕ). i * 256) (range_with_len 0 256)
unfolding with_bit
low = refl

get-map : (f : ℕ → ℕ) (a n i : ℕ) → i < n → get_or (map f (range_with_len a n)) i 0 ≡ f (a + i)
get-map f a zero i h = absurd (omega arith)
get-map f a (suc n) zero h = let e : a ≡ a + 0 = omega arith in ap f e
get-map f a (suc n) (suc i) h = let e : a + 1 + i ≡ a + suc i = omega arith in
    get-map f (a + 1) n i (omega arith) ∙ ap f e

from-zero : (f : ℕ → ℕ) (n i : ℕ) → i < n → get_or (map f (range_with_len 0 n)) i 0 ≡ f i
from-zero f n i h = let e : 0 + i ≡ i = omega arith in get-map f 0 n i h ∙ ap f e

with_bit-lt : (r c : ℕ) → c < 2 → r < 0x10000 → with_bit r c < 0x10000
with_bit-lt r c hc hr =
    let ht : r / 0x8000 < 2 = omega arith in
    subst (λ (x : ℕ). x < 0x10000) (sym (with_bit-is r c (r / 0x8000) refl ht hc))
    (xor_lt 16 (2 * r % 0x10000) (0x1021 * bit_xor (r / 0x8000) c) (omega arith)
    (omega (arith, xor_lt 1 (r / 0x8000) c ht hc)))

folds : (cs : List ℕ) → AllByRecursion (λ c. c < 2) cs → (r s : ℕ) → r < 0x10000 → s < 0x10000
    → fold with_bit (bit_xor r s) cs ≡ bit_xor (fold with_bit r cs) (fold with_bit s (map (λ (c : ℕ). 0) cs))
folds [] all r s hr hs = refl
folds (c ∷ cs) all r s hr hs =
    ap (λ x. fold with_bit x cs) (ap (with_bit (bit_xor r s)) (sym (xor_zero_r c))
    ∙ linear r s c 0 hr hs all.0 (omega arith))
    ∙ folds cs all.1 (with_bit r c) (with_bit s 0) (with_bit-lt r c all.0 hr) (with_bit-lt s 0 (omega arith) hs)

folds_byte : (b r s : ℕ) → r < 0x10000 → s < 0x10000
    → fold with_bit (bit_xor r s) (bits b) ≡ bit_xor (fold with_bit r (bits b)) (fold with_bit s zeros)
unfolding bits
folds_byte b r s hr hs = folds (bits b) (
  bit_at-lt b 7,
  (
    bit_at-lt b 6,
    (
      bit_at-lt b 5,
      (bit_at-lt b 4, (bit_at-lt b 3, (bit_at-lt b 2, (bit_at-lt b 1, (bit_at-lt b 0, tt))))),
    ),
  ),
) r s hr hs

at_entry : (i : ℕ) → i < 256 → get_or table i 0 ≡ entry i
at_entry i h = ap (λ xs. get_or xs i 0) (sym table_is) ∙ from-zero entry 256 i h

abbrev nought : ℕ
nought = 0

replicated : (n i : ℕ) → get_or (replicate n nought) i 0 ≡ nought
replicated zero i = refl
replicated (suc n) zero = refl
replicated (suc n) (suc i) = replicated n i

at_cancelled : (i : ℕ) → i < 256 → fold with_bit (i * 256) (bits i) ≡ 0
at_cancelled i h = sym (from-zero (λ (i : ℕ). fold with_bit (i * 256) (bits i)) 256 i h)
    ∙ ap (λ xs. get_or xs i 0) cancelled ∙ replicated 256 i

at_low : (i : ℕ) → i < 256 → fold with_bit i zeros ≡ i * 256
at_low i h = sym (from-zero (λ (i : ℕ). fold with_bit i zeros) 256 i h) ∙ ap (λ xs. get_or xs i 0) low
    ∙ from-zero (λ (i : ℕ). i * 256) 256 i h

apart_of : (h b : ℕ) → h * 256 ≡ bit_xor (b * 256) (bit_xor h b * 256)
apart_of h b =
    let i = bit_xor h b in
    let e : bit_xor b i ≡ h = ap (bit_xor b) (xor_comm h b) ∙ sym (xor_assoc b b h) ∙ ap (λ x. bit_xor x h) (xor_self b)
    ∙ xor_zero_l h in
    let f : bit_xor (b * 2 ^ 8 + 0) (i * 2 ^ 8 + 0) ≡ bit_xor b i * 2 ^ 8 + bit_xor 0 0 =
    xor_block 8 b i 0 0 (omega arith) (omega arith) in
    let g : b * 256 ≡ b * 2 ^ 8 + 0 = omega arith in
    let k : i * 256 ≡ i * 2 ^ 8 + 0 = omega arith in
    let m : bit_xor b i * 256 ≡ bit_xor b i * 2 ^ 8 + bit_xor 0 0 = omega arith in
    ap (λ (x : ℕ). x * 256) (sym e) ∙ m ∙ sym f ∙ sym (ap (λ x. bit_xor x (i * 256)) g ∙ ap (bit_xor (b * 2 ^ 8 + 0)) k)

-- eight bit steps are one table step
pub one_step : (r b : ℕ) → r < 0x10000 → b < 0x100
    → fold with_bit r (bits b) ≡ bit_xor (r * 256 % 0x10000) (get_or table (bit_xor (r / 256) b) 0)
one_step r b hr hb =
    let hi = r / 256 in
    let lo = r % 256 in
    let i = bit_xor hi b in
    let hhi : hi < 256 = omega arith in
    let hlo : lo < 256 = omega arith in
    let hi_lt : i < 256 = xor_lt 8 hi b hhi hb in
    let split : r ≡ bit_xor (hi * 2 ^ 8) lo = (let e : r ≡ hi * 2 ^ 8 + lo = omega arith in e)
    ∙ sym (xor_shifted hi 8 lo hlo) in
    let apart : hi * 256 ≡ bit_xor (b * 256) (i * 256) = apart_of hi b in
    let same : r * 256 % 0x10000 ≡ lo * 256 = omega arith in
    ap (λ x. fold with_bit x (bits b)) split ∙ folds_byte b (hi * 256) lo (omega arith) (omega arith)
    ∙ ap (bit_xor (fold with_bit (hi * 256) (bits b))) (at_low lo hlo)
    ∙ ap (λ x. bit_xor (fold with_bit x (bits b)) (lo * 256)) apart
    ∙ ap (λ x. bit_xor x (lo * 256)) (folds_byte b (b * 256) (i * 256) (omega arith) (omega arith)
    ∙ ap (λ x. bit_xor x (entry i)) (at_cancelled b hb) ∙ xor_zero_l (entry i) ∙ sym (at_entry i hi_lt))
    ∙ xor_comm (get_or table i 0) (lo * 256) ∙ ap (λ x. bit_xor x (get_or table i 0)) (sym same)

-- ---- two bytes at a step
abbrev second : List ℕ
second = 0x0000 ∷ 0x3331 ∷ 0x6662 ∷ 0x5553 ∷ 0xCCC4 ∷ 0xFFF5 ∷ 0xAAA6 ∷ 0x9997 ∷ 0x89A9 ∷ 0xBA98 ∷ 0xEFCB ∷ 0xDCFA
    ∷ 0x456D ∷ 0x765C ∷ 0x230F ∷ 0x103E ∷ 0x0373 ∷ 0x3042 ∷ 0x6511 ∷ 0x5620 ∷ 0xCFB7 ∷ 0xFC86 ∷ 0xA9D5 ∷ 0x9AE4 ∷ 0x8ADA
    ∷ 0xB9EB ∷ 0xECB8 ∷ 0xDF89 ∷ 0x461E ∷ 0x752F ∷ 0x207C ∷ 0x134D ∷ 0x06E6 ∷ 0x35D7 ∷ 0x6084 ∷ 0x53B5 ∷ 0xCA22 ∷ 0xF913
    ∷ 0xAC40 ∷ 0x9F71 ∷ 0x8F4F ∷ 0xBC7E ∷ 0xE92D ∷ 0xDA1C ∷ 0x438B ∷ 0x70BA ∷ 0x25E9 ∷ 0x16D8 ∷ 0x0595 ∷ 0x36A4 ∷ 0x63F7
    ∷ 0x50C6 ∷ 0xC951 ∷ 0xFA60 ∷ 0xAF33 ∷ 0x9C02 ∷ 0x8C3C ∷ 0xBF0D ∷ 0xEA5E ∷ 0xD96F ∷ 0x40F8 ∷ 0x73C9 ∷ 0x269A ∷ 0x15AB
    ∷ 0x0DCC ∷ 0x3EFD ∷ 0x6BAE ∷ 0x589F ∷ 0xC108 ∷ 0xF239 ∷ 0xA76A ∷ 0x945B ∷ 0x8465 ∷ 0xB754 ∷ 0xE207 ∷ 0xD136 ∷ 0x48A1
    ∷ 0x7B90 ∷ 0x2EC3 ∷ 0x1DF2 ∷ 0x0EBF ∷ 0x3D8E ∷ 0x68DD ∷ 0x5BEC ∷ 0xC27B ∷ 0xF14A ∷ 0xA419 ∷ 0x9728 ∷ 0x8716 ∷ 0xB427
    ∷ 0xE174 ∷ 0xD245 ∷ 0x4BD2 ∷ 0x78E3 ∷ 0x2DB0 ∷ 0x1E81 ∷ 0x0B2A ∷ 0x381B ∷ 0x6D48 ∷ 0x5E79 ∷ 0xC7EE ∷ 0xF4DF ∷ 0xA18C
    ∷ 0x92BD ∷ 0x8283 ∷ 0xB1B2 ∷ 0xE4E1 ∷ 0xD7D0 ∷ 0x4E47 ∷ 0x7D76 ∷ 0x2825 ∷ 0x1B14 ∷ 0x0859 ∷ 0x3B68 ∷ 0x6E3B ∷ 0x5D0A
    ∷ 0xC49D ∷ 0xF7AC ∷ 0xA2FF ∷ 0x91CE ∷ 0x81F0 ∷ 0xB2C1 ∷ 0xE792 ∷ 0xD4A3 ∷ 0x4D34 ∷ 0x7E05 ∷ 0x2B56 ∷ 0x1867 ∷ 0x1B98
    ∷ 0x28A9 ∷ 0x7DFA ∷ 0x4ECB ∷ 0xD75C ∷ 0xE46D ∷ 0xB13E ∷ 0x820F ∷ 0x9231 ∷ 0xA100 ∷ 0xF453 ∷ 0xC762 ∷ 0x5EF5 ∷ 0x6DC4
    ∷ 0x3897 ∷ 0x0BA6 ∷ 0x18EB ∷ 0x2BDA ∷ 0x7E89 ∷ 0x4DB8 ∷ 0xD42F ∷ 0xE71E ∷ 0xB24D ∷ 0x817C ∷ 0x9142 ∷ 0xA273 ∷ 0xF720
    ∷ 0xC411 ∷ 0x5D86 ∷ 0x6EB7 ∷ 0x3BE4 ∷ 0x08D5 ∷ 0x1D7E ∷ 0x2E4F ∷ 0x7B1C ∷ 0x482D ∷ 0xD1BA ∷ 0xE28B ∷ 0xB7D8 ∷ 0x84E9
    ∷ 0x94D7 ∷ 0xA7E6 ∷ 0xF2B5 ∷ 0xC184 ∷ 0x5813 ∷ 0x6B22 ∷ 0x3E71 ∷ 0x0D40 ∷ 0x1E0D ∷ 0x2D3C ∷ 0x786F ∷ 0x4B5E ∷ 0xD2C9
    ∷ 0xE1F8 ∷ 0xB4AB ∷ 0x879A ∷ 0x97A4 ∷ 0xA495 ∷ 0xF1C6 ∷ 0xC2F7 ∷ 0x5B60 ∷ 0x6851 ∷ 0x3D02 ∷ 0x0E33 ∷ 0x1654 ∷ 0x2565
    ∷ 0x7036 ∷ 0x4307 ∷ 0xDA90 ∷ 0xE9A1 ∷ 0xBCF2 ∷ 0x8FC3 ∷ 0x9FFD ∷ 0xACCC ∷ 0xF99F ∷ 0xCAAE ∷ 0x5339 ∷ 0x6008 ∷ 0x355B
    ∷ 0x066A ∷ 0x1527 ∷ 0x2616 ∷ 0x7345 ∷ 0x4074 ∷ 0xD9E3 ∷ 0xEAD2 ∷ 0xBF81 ∷ 0x8CB0 ∷ 0x9C8E ∷ 0xAFBF ∷ 0xFAEC ∷ 0xC9DD
    ∷ 0x504A ∷ 0x637B ∷ 0x3628 ∷ 0x0519 ∷ 0x10B2 ∷ 0x2383 ∷ 0x76D0 ∷ 0x45E1 ∷ 0xDC76 ∷ 0xEF47 ∷ 0xBA14 ∷ 0x8925 ∷ 0x991B
    ∷ 0xAA2A ∷ 0xFF79 ∷ 0xCC48 ∷ 0x55DF ∷ 0x66EE ∷ 0x33BD ∷ 0x008C ∷ 0x13C1 ∷ 0x20F0 ∷ 0x75A3 ∷ 0x4692 ∷ 0xDF05 ∷ 0xEC34
    ∷ 0xB967 ∷ 0x8A56 ∷ 0x9A68 ∷ 0xA959 ∷ 0xFC0A ∷ 0xCF3B ∷ 0x56AC ∷ 0x659D ∷ 0x30CE ∷ 0x03FF ∷ []

second_is : map (λ (i : ℕ). fold with_bit (entry i) zeros) (range_with_len 0 256) ≡ second
unfolding with_bit
second_is = refl

at_second : (i : ℕ) → i < 256 → get_or second i 0 ≡ fold with_bit (entry i) zeros
at_second i h = ap (λ xs. get_or xs i 0) (sym second_is)
    ∙ from-zero (λ (i : ℕ). fold with_bit (entry i) zeros) 256 i h

entry-lt : (i : ℕ) → i < 256 → entry i < 0x10000
entry-lt i h =
    with_bit-lt _ 0 (omega arith) (with_bit-lt _ 0 (omega arith) (with_bit-lt _ 0 (omega arith)
    (with_bit-lt _ 0 (omega arith) (with_bit-lt _ 0 (omega arith) (with_bit-lt _ 0 (omega arith)
    (with_bit-lt _ 0 (omega arith) (with_bit-lt (i * 256) 0 (omega arith) (omega arith))))))))

-- sixteen bit steps are one step by two tables
pub two_steps : (r a b : ℕ) → r < 0x10000 → a < 0x100 → b < 0x100
    → fold with_bit (fold with_bit r (bits a)) (bits b)
    ≡ bit_xor (get_or second (bit_xor (r / 256) a) 0) (get_or table (bit_xor (r % 256) b) 0)
two_steps r a b hr ha hb =
    let i = bit_xor (r / 256) a in
    let lo = r % 256 in
    let hlo : lo < 256 = omega arith in
    let hhi : r / 256 < 256 = omega arith in
    let hi_lt : i < 256 = xor_lt 8 (r / 256) a hhi ha in
    let same : r * 256 % 0x10000 ≡ lo * 256 = omega arith in
    let none : lo * 256 * 256 % 0x10000 ≡ 0 = omega arith in
    let upper : lo * 256 / 256 ≡ lo = omega arith in
    ap (λ x. fold with_bit x (bits b)) (one_step r a hr ha ∙ ap (λ x. bit_xor x (get_or table i 0)) same
    ∙ ap (bit_xor (lo * 256)) (at_entry i hi_lt))
    ∙ folds_byte b (lo * 256) (entry i) (omega arith) (entry-lt i hi_lt)
    ∙ ap (bit_xor (fold with_bit (lo * 256) (bits b))) (sym (at_second i hi_lt))
    ∙ ap (λ x. bit_xor x (get_or second i 0)) (one_step (lo * 256) b (omega arith) hb
    ∙ ap (λ x. bit_xor x (get_or table (bit_xor (lo * 256 / 256) b) 0)) none
    ∙ xor_zero_l (get_or table (bit_xor (lo * 256 / 256) b) 0)
    ∙ ap (λ x. get_or table (bit_xor x b) 0) upper)
    ∙ xor_comm (get_or table (bit_xor lo b) 0) (get_or second i 0)
