-- What spells a byte between quotes, and what does not.
use Rattle.std.proofs.Common.{◌≡◌, ◌≢◌, ℕ, ◌+◌, ◌*◌, ◌≤◌, List, [], ◌∷◌, ◌++◌, length, get_or, Some, refl, sym}
use Rattle.std.proofs.Common.{ap, ◌∙◌, inl, inr, arith}
use Rattle.std.specs.Char.{digit_value}
use Rattle.rds_text.specs.BasicSet.{character_of}
use Rattle.rds_text.specs.Quoted.{Way, Plain, Escaped, ByNumber, ByCharacter, characters, Means, IsHexDigit}
use Rattle.rds_text.specs.Quoted.{SpellsFirst, SpellsNone}

-- A way to write a byte, with more behind it.
pub first_so : (way : Way) (byte count : ℕ) (more text : List ℕ) → Means way byte → text ≡ characters way ++ more
    → count ≡ length (characters way) → SpellsFirst text byte count
first_so way byte count more text means whole counted =
    record { front = characters way; more = more; whole = whole; counted = counted; spells = (way, refl, means) }

-- Two digits in front of a text.
pub two_digits : (text : List ℕ) (high low byte : ℕ) → 2 ≤ length text → high ≡ get_or text 0 high
    → low ≡ get_or text 1 low
    → IsHexDigit high → IsHexDigit low → byte ≡ 16 * digit_value high + digit_value low
    → SpellsFirst (0x5C ∷ 0x78 ∷ text) byte 4
two_digits [] high low byte long _ _ _ _ _ = absurd (omega arith)
two_digits (a ∷ []) high low byte long _ _ _ _ _ = absurd (omega arith)
two_digits (a ∷ b ∷ more) high low byte long h l is_h is_l value =
    first_so (ByNumber high low) byte 4 more _ (is_h, is_l, value)
    (ap (λ x. 0x5C ∷ 0x78 ∷ x ∷ b ∷ more) (sym h) ∙ ap (λ x. 0x5C ∷ 0x78 ∷ high ∷ x ∷ more) (sym l)) refl

-- The number of four digits.
abbrev pub number_of : (a b c d : ℕ) → ℕ
number_of a b c d = 4096 * digit_value a + (256 * digit_value b + (16 * digit_value c + digit_value d))

-- It is what their values come to.
pub same_number : (a b c d i j k l : ℕ) → i ≡ digit_value a → j ≡ digit_value b → k ≡ digit_value c → l ≡ digit_value d
    → 4096 * i + (256 * j + (16 * k + l)) ≡ number_of a b c d
same_number a b c d i j k l e f g h = cc

-- Four digits in front of a text.
pub four_digits : (text : List ℕ) (a b c d byte : ℕ) → 4 ≤ length text → a ≡ get_or text 0 a → b ≡ get_or text 1 b
    → c ≡ get_or text 2 c → d ≡ get_or text 3 d → IsHexDigit a → IsHexDigit b → IsHexDigit c → IsHexDigit d
    → character_of byte ≡ Some (number_of a b c d) → SpellsFirst (0x5C ∷ 0x75 ∷ text) byte 6
four_digits [] a b c d byte long _ _ _ _ _ _ _ _ _ = absurd (omega arith)
four_digits (_ ∷ []) a b c d byte long _ _ _ _ _ _ _ _ _ = absurd (omega arith)
four_digits (_ ∷ _ ∷ []) a b c d byte long _ _ _ _ _ _ _ _ _ = absurd (omega arith)
four_digits (_ ∷ _ ∷ _ ∷ []) a b c d byte long _ _ _ _ _ _ _ _ _ = absurd (omega arith)
four_digits (w ∷ x ∷ y ∷ z ∷ more) a b c d byte long e f g h is_a is_b is_c is_d value =
    first_so (ByCharacter a b c d) byte 6 more _ (is_a, is_b, is_c, is_d, value)
    (ap (λ i. 0x5C ∷ 0x75 ∷ i ∷ x ∷ y ∷ z ∷ more) (sym e) ∙ ap (λ i. 0x5C ∷ 0x75 ∷ a ∷ i ∷ y ∷ z ∷ more) (sym f)
    ∙ ap (λ i. 0x5C ∷ 0x75 ∷ a ∷ b ∷ i ∷ z ∷ more) (sym g) ∙ ap (λ i. 0x5C ∷ 0x75 ∷ a ∷ b ∷ c ∷ i ∷ more) (sym h)) refl

-- Four digits in front of a text spell none where their number is no character of the set.
pub no_character : (text : List ℕ) (a b c d : ℕ) → 4 ≤ length text → a ≡ get_or text 0 a → b ≡ get_or text 1 b
    → c ≡ get_or text 2 c → d ≡ get_or text 3 d → ((byte : ℕ) → character_of byte ≢ Some (number_of a b c d))
    → SpellsNone (0x5C ∷ 0x75 ∷ text)
no_character [] a b c d long _ _ _ _ _ = absurd (omega arith)
no_character (_ ∷ []) a b c d long _ _ _ _ _ = absurd (omega arith)
no_character (_ ∷ _ ∷ []) a b c d long _ _ _ _ _ = absurd (omega arith)
no_character (_ ∷ _ ∷ _ ∷ []) a b c d long _ _ _ _ _ = absurd (omega arith)
no_character (w ∷ x ∷ y ∷ z ∷ rest) a b c d long e f g h none = λ front more byte whole spells.
    by front more byte whole spells.0 spells.1 spells.2
  where
    by : (front more : List ℕ) (byte : ℕ) → 0x5C ∷ 0x75 ∷ w ∷ x ∷ y ∷ z ∷ rest ≡ front ++ more → (way : Way)
        → front ≡ characters way → Means way byte → ⊥
    by front more byte whole (Plain k) is means =
        let same : 0x5C ∷ 0x75 ∷ w ∷ x ∷ y ∷ z ∷ rest ≡ characters (Plain k) ++ more = whole ∙ ap (λ l. l ++ more) is in
        let first : 0x5C ≡ k = cc same in
        means.1 (sym first)
    by front more byte whole (Escaped k) is means =
        let same : 0x5C ∷ 0x75 ∷ w ∷ x ∷ y ∷ z ∷ rest ≡ characters (Escaped k) ++ more =
        whole ∙ ap (λ l. l ++ more) is in
        let second : 0x75 ≡ k = cc same in
        elim means.0 [ inl quote ↦ omega arith | inr backslash ↦ omega arith ]
    by front more byte whole (ByNumber i j) is means =
        let same : 0x5C ∷ 0x75 ∷ w ∷ x ∷ y ∷ z ∷ rest ≡ characters (ByNumber i j) ++ more =
        whole ∙ ap (λ l. l ++ more) is in
        let second : ◌≡◌ {A = ℕ} 0x75 0x78 = cc same in
        omega arith
    by front more byte whole (ByCharacter i j k l) is means =
        let same : 0x5C ∷ 0x75 ∷ w ∷ x ∷ y ∷ z ∷ rest ≡ characters (ByCharacter i j k l) ++ more =
        whole ∙ ap (λ l. l ++ more) is in
        let p : w ≡ i = cc same in
        let q : x ≡ j = cc same in
        let r : y ≡ k = cc same in
        let t : z ≡ l = cc same in
        let number : number_of i j k l ≡ number_of a b c d = cc (p, q, r, t, e, f, g, h) in
        none byte (means.4 ∙ ap (λ n. Some n) number)
