-- A change of one byte, or of two that are neighbours, is noticed by the check.
use Rattle.std.proofs.Common.{◌≡◌, ℕ, zero, suc, ◌+◌, ◌-◌, ◌*◌, ◌/◌, ◌%◌, ◌<◌, ◌≤◌, ◌==◌, Bool, true, false, List, []}
use Rattle.std.proofs.Common.{◌∷◌, ◌++◌, length, get_or, take, drop, fold, flat_map, refl, ap, sym, ◌∙◌, arith}
use Rattle.std.proofs.Common.{if◌then◌else◌}
use Rattle.std.specs.Prelude.{bit_xor, ◌^◌}
use Rattle.std.specs.Int.Bits.{xor_assoc, xor_zero_r, xor_self}
use Rattle.std.proofs.lemmas.Nat.{xor_lt, xor_mod}
use Rattle.std.proofs.lemmas.Nat.Bits.{bit_at-lt}
use Rattle.std.proofs.Common.{length-append}
use Rattle.std.proofs.Math.Seq.{take-append_seam, drop-append_seam}
use Rattle.std.proofs.lemmas.Grind.{flat_map-append, fold-append}
use Rattle.uecp_elements.specs.Grammar.{AreBytes}
use Rattle.uecp_frame.specs.Check.{bits, with_bit, check}
use Rattle.end_images.specs.Laws.{NoticesAChange}

-- ---- One bit.

cancelled : (u v c : ℕ) → bit_xor u c ≡ bit_xor v c → u ≡ v
cancelled u v c same =
    sym (again u) ∙ ap (λ x. bit_xor x c) same ∙ again v
  where
    again : (w : ℕ) → bit_xor (bit_xor w c) c ≡ w
    again w = xor_assoc w c c ∙ ap (bit_xor w) (xor_self c) ∙ xor_zero_r w

lowest : (u v k : ℕ) → bit_xor u 0x1021 % 2 ^ k ≡ bit_xor v 0x1021 % 2 ^ k → u % 2 ^ k ≡ v % 2 ^ k
lowest u v k same =
    cancelled (u % 2 ^ k) (v % 2 ^ k) (0x1021 % 2 ^ k) (sym (xor_mod u 0x1021 k) ∙ same ∙ xor_mod v 0x1021 k)

odd : (u : ℕ) → u % 2 ≡ 0 → bit_xor u 0x1021 % 2 ≡ 1
odd u even = xor_mod u 0x1021 1 ∙ ap (λ x. bit_xor x 1) even

parity : (k u v : ℕ) → k ≤ 15 → u % 2 ^ suc k ≡ v % 2 ^ suc k → u % 2 ≡ v % 2
parity zero u v within same = omega (arith, same)
parity (suc zero) u v within same = omega (arith, same)
parity (suc (suc zero)) u v within same = omega (arith, same)
parity (suc (suc (suc zero))) u v within same = omega (arith, same)
parity (suc (suc (suc (suc zero)))) u v within same = omega (arith, same)
parity (suc (suc (suc (suc (suc zero))))) u v within same = omega (arith, same)
parity (suc (suc (suc (suc (suc (suc zero)))))) u v within same = omega (arith, same)
parity (suc (suc (suc (suc (suc (suc (suc zero))))))) u v within same = omega (arith, same)
parity (suc (suc (suc (suc (suc (suc (suc (suc zero)))))))) u v within same = omega (arith, same)
parity (suc (suc (suc (suc (suc (suc (suc (suc (suc zero))))))))) u v within same = omega (arith, same)
parity (suc (suc (suc (suc (suc (suc (suc (suc (suc (suc zero)))))))))) u v within same = omega (arith, same)
parity (suc (suc (suc (suc (suc (suc (suc (suc (suc (suc (suc zero))))))))))) u v within same = omega (arith, same)
parity (suc (suc (suc (suc (suc (suc (suc (suc (suc (suc (suc (suc zero)))))))))))) u v within same =
    omega (arith, same)
parity (suc (suc (suc (suc (suc (suc (suc (suc (suc (suc (suc (suc (suc zero))))))))))))) u v within same =
    omega (arith, same)
parity (suc (suc (suc (suc (suc (suc (suc (suc (suc (suc (suc (suc (suc (suc zero)))))))))))))) u v within same =
    omega (arith, same)
parity (suc (suc (suc (suc (suc (suc (suc (suc (suc (suc (suc (suc (suc (suc (suc zero))))))))))))))) u v within same =
    omega (arith, same)
parity (suc (suc (suc (suc (suc (suc (suc (suc (suc (suc (suc (suc (suc (suc (suc (suc k)))))))))))))))) u v within
    same = absurd (omega (arith, within))

halves : (k u v : ℕ) → k ≤ 15 → 2 * u % 0x10000 % 2 ^ suc k ≡ 2 * v % 0x10000 % 2 ^ suc k → u % 2 ^ k ≡ v % 2 ^ k
halves zero u v within same = omega (arith, same)
halves (suc zero) u v within same = omega (arith, same)
halves (suc (suc zero)) u v within same = omega (arith, same)
halves (suc (suc (suc zero))) u v within same = omega (arith, same)
halves (suc (suc (suc (suc zero)))) u v within same = omega (arith, same)
halves (suc (suc (suc (suc (suc zero))))) u v within same = omega (arith, same)
halves (suc (suc (suc (suc (suc (suc zero)))))) u v within same = omega (arith, same)
halves (suc (suc (suc (suc (suc (suc (suc zero))))))) u v within same = omega (arith, same)
halves (suc (suc (suc (suc (suc (suc (suc (suc zero)))))))) u v within same = omega (arith, same)
halves (suc (suc (suc (suc (suc (suc (suc (suc (suc zero))))))))) u v within same = omega (arith, same)
halves (suc (suc (suc (suc (suc (suc (suc (suc (suc (suc zero)))))))))) u v within same = omega (arith, same)
halves (suc (suc (suc (suc (suc (suc (suc (suc (suc (suc (suc zero))))))))))) u v within same = omega (arith, same)
halves (suc (suc (suc (suc (suc (suc (suc (suc (suc (suc (suc (suc zero)))))))))))) u v within same =
    omega (arith, same)
halves (suc (suc (suc (suc (suc (suc (suc (suc (suc (suc (suc (suc (suc zero))))))))))))) u v within same =
    omega (arith, same)
halves (suc (suc (suc (suc (suc (suc (suc (suc (suc (suc (suc (suc (suc (suc zero)))))))))))))) u v within same =
    omega (arith, same)
halves (suc (suc (suc (suc (suc (suc (suc (suc (suc (suc (suc (suc (suc (suc (suc zero))))))))))))))) u v within same =
    omega (arith, same)
halves (suc (suc (suc (suc (suc (suc (suc (suc (suc (suc (suc (suc (suc (suc (suc (suc k)))))))))))))))) u v within
    same = absurd (omega (arith, within))

with_bit-lt : (r x : ℕ) → with_bit r x < 0x10000
unfolding with_bit
with_bit-lt r x = go (r / 0x8000 == x)
  where
    go : (a : Bool) → (if a then 2 * r % 0x10000 else bit_xor (2 * r % 0x10000) 0x1021) < 0x10000
    go true = omega arith
    go false = xor_lt 16 (2 * r % 0x10000) 0x1021 (omega arith) (omega arith)

-- Where two steps end alike in their lowest bits, so did they begin, and both took the polynomial or neither.
at_start : (k r s x y : ℕ) → k ≤ 15 → with_bit r x % 2 ^ suc k ≡ with_bit s y % 2 ^ suc k
    → (r % 2 ^ k ≡ s % 2 ^ k) × ((r / 0x8000 == x) ≡ (s / 0x8000 == y))
unfolding with_bit
at_start k r s x y within same = go (r / 0x8000 == x) (s / 0x8000 == y) same
  where
    go : (a b : Bool)
        → (if a then 2 * r % 0x10000 else bit_xor (2 * r % 0x10000) 0x1021) % 2 ^ suc k
        ≡ (if b then 2 * s % 0x10000 else bit_xor (2 * s % 0x10000) 0x1021) % 2 ^ suc k
        → (r % 2 ^ k ≡ s % 2 ^ k) × (a ≡ b)
    go true true e = (halves k r s within e, refl)
    go false false e = (halves k r s within (lowest (2 * r % 0x10000) (2 * s % 0x10000) (suc k) e), refl)
    go true false e =
        let p = parity k (2 * r % 0x10000) (bit_xor (2 * s % 0x10000) 0x1021) within e in
        absurd (omega (arith, p, odd (2 * s % 0x10000) (omega arith)))
    go false true e =
        let p = parity k (bit_xor (2 * r % 0x10000) 0x1021) (2 * s % 0x10000) within e in
        absurd (omega (arith, p, odd (2 * r % 0x10000) (omega arith)))

alike : (t u x y : ℕ) → t < 2 → u < 2 → x < 2 → y < 2 → (t == x) ≡ (u == y) → (t ≡ u → x ≡ y) × (x ≡ y → t ≡ u)
alike zero zero zero zero ht hu hx hy same = ((λ e. refl), (λ e. refl))
alike zero zero zero (suc zero) ht hu hx hy same = absurd (cc)
alike zero zero (suc zero) zero ht hu hx hy same = absurd (cc)
alike zero zero (suc zero) (suc zero) ht hu hx hy same = ((λ e. refl), (λ e. refl))
alike zero (suc zero) zero zero ht hu hx hy same = absurd (cc)
alike zero (suc zero) zero (suc zero) ht hu hx hy same =
    ((λ e. absurd (omega (arith, e))), (λ e. absurd (omega (arith, e))))
alike zero (suc zero) (suc zero) zero ht hu hx hy same =
    ((λ e. absurd (omega (arith, e))), (λ e. absurd (omega (arith, e))))
alike zero (suc zero) (suc zero) (suc zero) ht hu hx hy same = absurd (cc)
alike (suc zero) zero zero zero ht hu hx hy same = absurd (cc)
alike (suc zero) zero zero (suc zero) ht hu hx hy same =
    ((λ e. absurd (omega (arith, e))), (λ e. absurd (omega (arith, e))))
alike (suc zero) zero (suc zero) zero ht hu hx hy same =
    ((λ e. absurd (omega (arith, e))), (λ e. absurd (omega (arith, e))))
alike (suc zero) zero (suc zero) (suc zero) ht hu hx hy same = absurd (cc)
alike (suc zero) (suc zero) zero zero ht hu hx hy same = ((λ e. refl), (λ e. refl))
alike (suc zero) (suc zero) zero (suc zero) ht hu hx hy same = absurd (cc)
alike (suc zero) (suc zero) (suc zero) zero ht hu hx hy same = absurd (cc)
alike (suc zero) (suc zero) (suc zero) (suc zero) ht hu hx hy same = ((λ e. refl), (λ e. refl))
alike (suc (suc n)) u x y ht hu hx hy same = absurd (omega (arith, ht))
alike zero (suc (suc n)) x y ht hu hx hy same = absurd (omega (arith, hu))
alike zero zero (suc (suc n)) y ht hu hx hy same = absurd (omega (arith, hx))
alike zero zero zero (suc (suc n)) ht hu hx hy same = absurd (omega (arith, hy))
alike zero zero (suc zero) (suc (suc n)) ht hu hx hy same = absurd (omega (arith, hy))
alike zero (suc zero) (suc (suc n)) y ht hu hx hy same = absurd (omega (arith, hx))
alike zero (suc zero) zero (suc (suc n)) ht hu hx hy same = absurd (omega (arith, hy))
alike zero (suc zero) (suc zero) (suc (suc n)) ht hu hx hy same = absurd (omega (arith, hy))
alike (suc zero) (suc (suc n)) x y ht hu hx hy same = absurd (omega (arith, hu))
alike (suc zero) zero (suc (suc n)) y ht hu hx hy same = absurd (omega (arith, hx))
alike (suc zero) zero zero (suc (suc n)) ht hu hx hy same = absurd (omega (arith, hy))
alike (suc zero) zero (suc zero) (suc (suc n)) ht hu hx hy same = absurd (omega (arith, hy))
alike (suc zero) (suc zero) (suc (suc n)) y ht hu hx hy same = absurd (omega (arith, hx))
alike (suc zero) (suc zero) zero (suc (suc n)) ht hu hx hy same = absurd (omega (arith, hy))
alike (suc zero) (suc zero) (suc zero) (suc (suc n)) ht hu hx hy same = absurd (omega (arith, hy))

-- ---- Bits in a row.

abbrev AreBits : List ℕ → Type 0
AreBits [] = Unit {0}
AreBits (x ∷ xs) = (x < 2) × AreBits xs

fold-lt : (xs : List ℕ) (r : ℕ) → r < 0x10000 → fold with_bit r xs < 0x10000
fold-lt [] r h = h
fold-lt (x ∷ xs) r h = fold-lt xs (with_bit r x) (with_bit-lt r x)

-- The same bits leave different registers different.
same_before : (xs : List ℕ) (r s : ℕ) → AreBits xs → r < 0x10000 → s < 0x10000
    → fold with_bit r xs ≡ fold with_bit s xs → r ≡ s
same_before [] r s are hr hs same = same
same_before (x ∷ xs) r s are hr hs same =
    let next = same_before xs (with_bit r x) (with_bit s x) are.1 (with_bit-lt r x) (with_bit-lt s x) same in
    let low = at_start 15 r s x x (omega arith) (ap (λ w. w % 0x10000) next) in
    let top : r / 0x8000 ≡ s / 0x8000 =
    (alike (r / 0x8000) (s / 0x8000) x x (omega (arith, hr)) (omega (arith, hs)) are.0 are.0 low.1).1 refl in
    omega (arith, low.0, top)

-- At most 16 bits that end alike from one register are the same.
agree : (xs ys : List ℕ) (k r s : ℕ) → length xs ≡ length ys → length xs + k ≡ 16 → AreBits xs → AreBits ys
    → fold with_bit r xs ≡ fold with_bit s ys
    → (r % 2 ^ k ≡ s % 2 ^ k) × (r ≡ s → r < 0x10000 → xs ≡ ys)
agree [] [] k r s long all are_xs are_ys same = (ap (λ w. w % 2 ^ k) same, λ e h. refl)
agree [] (y ∷ ys) k r s long all are_xs are_ys same = absurd (omega (arith, long))
agree (x ∷ xs) [] k r s long all are_xs are_ys same = absurd (omega (arith, long))
agree (x ∷ xs) (y ∷ ys) k r s long all are_xs are_ys same =
    let rest = agree xs ys (suc k) (with_bit r x) (with_bit s y) (omega (arith, long)) (omega (arith, all)) are_xs.1
    are_ys.1 same in
    let low = at_start k r s x y (omega (arith, all)) rest.0 in (
      low.0,
      λ (e : r ≡ s) (h : r < 0x10000).
          let first : x ≡ y =
          (alike (r / 0x8000) (s / 0x8000) x y (omega (arith, h)) (omega (arith, h, e)) are_xs.0 are_ys.0 low.1).0
          (ap (λ w. w / 0x8000) e) in
          let others : xs ≡ ys = rest.1 (λ i. with_bit (e i) (first i)) (with_bit-lt r x) in
          λ i. first i ∷ others i,
    )

-- ---- Bytes.

bits_append : (xs ys : List ℕ) → AreBits xs → AreBits ys → AreBits (xs ++ ys)
bits_append [] ys h k = k
bits_append (x ∷ xs) ys h k = (h.0, bits_append xs ys h.1 k)

bits_are : (b : ℕ) → AreBits (bits b)
unfolding bits
bits_are b = (
  bit_at-lt b 7,
  (
    bit_at-lt b 6,
    (
      bit_at-lt b 5,
      (bit_at-lt b 4, (bit_at-lt b 3, (bit_at-lt b 2, (bit_at-lt b 1, (bit_at-lt b 0, tt))))),
    ),
  ),
)

all_bits : (bytes : List ℕ) → AreBits (flat_map bits bytes)
all_bits [] = tt
all_bits (b ∷ bytes) = bits_append (bits b) (flat_map bits bytes) (bits_are b) (all_bits bytes)

byte_of_bits : (b c : ℕ) → b < 256 → c < 256 → bits b ≡ bits c → b ≡ c
unfolding bits
byte_of_bits b c hb hc same =
    let e0 : b / 128 % 2 ≡ c / 128 % 2 = ap (λ l. get_or l 0 0) same in
    let e1 : b / 64 % 2 ≡ c / 64 % 2 = ap (λ l. get_or l 1 0) same in
    let e2 : b / 32 % 2 ≡ c / 32 % 2 = ap (λ l. get_or l 2 0) same in
    let e3 : b / 16 % 2 ≡ c / 16 % 2 = ap (λ l. get_or l 3 0) same in
    let e4 : b / 8 % 2 ≡ c / 8 % 2 = ap (λ l. get_or l 4 0) same in
    let e5 : b / 4 % 2 ≡ c / 4 % 2 = ap (λ l. get_or l 5 0) same in
    let e6 : b / 2 % 2 ≡ c / 2 % 2 = ap (λ l. get_or l 6 0) same in
    let e7 : b % 2 ≡ c % 2 = omega (arith, ap (λ l. get_or l 7 0) same) in
    omega (arith, hb, hc, e0, e1, e2, e3, e4, e5, e6, e7)

bits_long : (b : ℕ) → length (bits b) ≡ 8
unfolding bits
bits_long b = refl

many : (bytes : List ℕ) → length (flat_map bits bytes) ≡ 8 * length bytes
many [] = refl
many (b ∷ bytes) =
    length-append (bits b) (flat_map bits bytes) ∙ omega (arith, bits_long b, many bytes)

bytes_same : (m n : List ℕ) → length m ≡ length n → AreBytes m → AreBytes n → flat_map bits m ≡ flat_map bits n → m ≡ n
bytes_same [] [] long are_m are_n same = refl
bytes_same [] (c ∷ n) long are_m are_n same = absurd (omega (arith, long))
bytes_same (b ∷ m) [] long are_m are_n same = absurd (omega (arith, long))
bytes_same (b ∷ m) (c ∷ n) long are_m are_n same =
    let eight : length (bits b) ≡ length (bits c) = bits_long b ∙ sym (bits_long c) in
    let front : bits b ≡ bits c =
    sym (take-append_seam (bits b) (flat_map bits m)) ∙ (λ i. take (eight i) (same i))
    ∙ take-append_seam (bits c) (flat_map bits n) in
    let rest : flat_map bits m ≡ flat_map bits n =
    sym (drop-append_seam (bits b) (flat_map bits m)) ∙ (λ i. drop (eight i) (same i))
    ∙ drop-append_seam (bits c) (flat_map bits n) in
    let first = byte_of_bits b c are_m.0 are_n.0 front in
    let others = bytes_same m n (omega (arith, long)) are_m.1 are_n.1 rest in
    λ i. first i ∷ others i

in_parts : (front m back : List ℕ) → fold with_bit 0xFFFF (flat_map bits (front ++ (m ++ back)))
    ≡ fold with_bit (fold with_bit (fold with_bit 0xFFFF (flat_map bits front)) (flat_map bits m)) (flat_map bits back)
in_parts front m back =
    ap (fold with_bit 0xFFFF) (flat_map-append bits front (m ++ back)
    ∙ ap (λ l. flat_map bits front ++ l) (flat_map-append bits m back))
    ∙ fold-append with_bit 0xFFFF (flat_map bits front) (flat_map bits m ++ flat_map bits back)
    ∙ fold-append with_bit (fold with_bit 0xFFFF (flat_map bits front)) (flat_map bits m) (flat_map bits back)

pub notices : NoticesAChange
unfolding check
notices front m n back long few are_m are_n same =
    let r = fold with_bit 0xFFFF (flat_map bits front) in
    let hr : r < 0x10000 = fold-lt (flat_map bits front) 0xFFFF (omega arith) in
    let a = fold with_bit r (flat_map bits m) in
    let b = fold with_bit r (flat_map bits n) in
    let ha : a < 0x10000 = fold-lt (flat_map bits m) r hr in
    let hb : b < 0x10000 = fold-lt (flat_map bits n) r hr in
    let ends : fold with_bit a (flat_map bits back) ≡ fold with_bit b (flat_map bits back) =
    sym (in_parts front m back)
    ∙ omega (
      arith,
      same,
      fold-lt (flat_map bits (front ++ (m ++ back))) 0xFFFF (omega arith),
      fold-lt (flat_map bits (front ++ (n ++ back))) 0xFFFF (omega arith),
    )
    ∙ in_parts front n back in
    let middle : a ≡ b = same_before (flat_map bits back) a b (all_bits back) ha hb ends in
    let bits_same : flat_map bits m ≡ flat_map bits n =
    (agree (flat_map bits m) (flat_map bits n) (16 - length (flat_map bits m)) r r
    (omega (arith, many m, many n, long)) (omega (arith, many m, few)) (all_bits m) (all_bits n) middle).1 refl hr in
    bytes_same m n long are_m are_n bits_same
