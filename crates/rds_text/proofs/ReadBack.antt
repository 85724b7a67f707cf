-- What is written of a byte spells it, and no spelling begins another.
use Rattle.std.proofs.Common.{◌≡◌, ◌≢◌, ℕ, ◌/◌, ◌%◌, ◌<◌, ◌==◌, List, [], ◌∷◌, ◌++◌, Some, None}
use Rattle.std.proofs.Common.{Bool, true, false, Option, refl, sym, ap, ◌∙◌, inl, inr, arith, if◌then◌else◌}
use Rattle.std.specs.Char.{digit_value}
use Rattle.std.specs.Option.{option_map_or}
use Rattle.std.proofs.lemmas.Bool.Decides.{nat_tests}
use Rattle.std.proofs.lemmas.Bool.{eqb-true}
use Rattle.rds_text.specs.BasicSet.{character_of}
use Rattle.rds_text.specs.Quoted.{Way, Plain, Escaped, ByNumber, ByCharacter, characters, Means, Spells, written}
use Rattle.rds_text.specs.Quoted.{hex_digit}
use Rattle.rds_text.proofs.Inverse.{one_byte}
use Rattle.rds_text.proofs.Spelled.{number_of}

-- The digit of a number below 16 has that value.
digit_back : (n : ℕ) → n < 16 → digit_value (hex_digit n) ≡ n
digit_back n few = grind (arith, nat_tests)

quote : character_of 0x22 ≡ Some 0x22
unfolding character_of
quote = refl

backslash : character_of 0x5C ≡ Some 0x5C
unfolding character_of
backslash = refl

-- A byte that is neither a quote nor a backslash.
other : (byte : ℕ) (o : Option ℕ) → character_of byte ≡ o → byte ≢ 0x22 → byte ≢ 0x5C → byte < 0x100
    → Spells (option_map_or (λ c. c ∷ []) o (0x5C ∷ 0x78 ∷ hex_digit (byte / 16) ∷ hex_digit (byte % 16) ∷ [])) byte
other byte (Some c) is no_quote no_backslash few = (
  Plain c,
  refl,
  (
    λ e. no_quote (one_byte byte 0x22 c is (quote ∙ ap (λ x. Some x) (sym e))),
    λ e. no_backslash (one_byte byte 0x5C c is (backslash ∙ ap (λ x. Some x) (sym e))),
    is,
  ),
)
other byte None is no_quote no_backslash few =
    let high : digit_value (hex_digit (byte / 16)) ≡ byte / 16 = digit_back (byte / 16) (omega arith) in
    let low : digit_value (hex_digit (byte % 16)) ≡ byte % 16 = digit_back (byte % 16) (omega arith) in
    (ByNumber (hex_digit (byte / 16)) (hex_digit (byte % 16)), refl, (omega arith, omega arith, omega arith))

pub read_back : (byte : ℕ) → byte < 0x100 → Spells (written byte) byte
read_back byte few = by (byte == 0x22) (byte == 0x5C) refl refl
  where
    by : (q b : Bool) → (byte == 0x22) ≡ q → (byte == 0x5C) ≡ b
        → Spells (if q then 0x5C ∷ 0x22 ∷ []
        else if b then 0x5C ∷ 0x5C ∷ []
        else option_map_or (λ c. c ∷ []) (character_of byte)
        (0x5C ∷ 0x78 ∷ hex_digit (byte / 16) ∷ hex_digit (byte % 16) ∷ [])) byte
    by true b e f = (Escaped 0x22, refl, (inl refl, eqb-true byte 0x22 e))
    by false true e f = (Escaped 0x5C, refl, (inr refl, eqb-true byte 0x5C f))
    by false false e f = other byte (character_of byte) refl (grind (arith, nat_tests)) (grind (arith, nat_tests)) few

-- Two ways of which one begins the other are the same bytes.
same : (v w : Way) (x y : ℕ) (more : List ℕ) → Means v x → Means w y → characters v ++ more ≡ characters w
    → (x ≡ y) × (more ≡ [])
same (Plain c) (Plain d) x y more m n e =
    let here : c ≡ d = cc e in
    (one_byte x y d (m.2 ∙ ap (λ k. Some k) here) n.2, cc e)
same (Plain c) (Escaped d) x y more m n e = let here : c ≡ 0x5C = cc e in absurd (m.1 here)
same (Plain c) (ByNumber h l) x y more m n e = let here : c ≡ 0x5C = cc e in absurd (m.1 here)
same (Plain c) (ByCharacter i j k l) x y more m n e = let here : c ≡ 0x5C = cc e in absurd (m.1 here)
same (Escaped c) (Plain d) x y more m n e = let here : 0x5C ≡ d = cc e in absurd (n.1 (sym here))
same (Escaped c) (Escaped d) x y more m n e = let here : c ≡ d = cc e in (m.1 ∙ here ∙ sym n.1, cc e)
same (Escaped c) (ByNumber h l) x y more m n e =
    let here : c ≡ 0x78 = cc e in
    absurd (elim m.0 [ inl q ↦ omega arith | inr b ↦ omega arith ])
same (Escaped c) (ByCharacter i j k l) x y more m n e =
    let here : c ≡ 0x75 = cc e in
    absurd (elim m.0 [ inl q ↦ omega arith | inr b ↦ omega arith ])
same (ByNumber h l) (Plain d) x y more m n e = let here : 0x5C ≡ d = cc e in absurd (n.1 (sym here))
same (ByNumber h l) (Escaped d) x y more m n e =
    let here : 0x78 ≡ d = cc e in
    absurd (elim n.0 [ inl q ↦ omega arith | inr b ↦ omega arith ])
same (ByNumber h l) (ByNumber i j) x y more m n e =
    let p : h ≡ i = cc e in
    let q : l ≡ j = cc e in
    (cc (m.2, n.2, p, q), cc e)
same (ByNumber h l) (ByCharacter i j k o) x y more m n e =
    let here : ◌≡◌ {A = ℕ} 0x78 0x75 = cc e in absurd (omega arith)
same (ByCharacter i j k l) (Plain d) x y more m n e = let here : 0x5C ≡ d = cc e in absurd (n.1 (sym here))
same (ByCharacter i j k l) (Escaped d) x y more m n e =
    let here : 0x75 ≡ d = cc e in
    absurd (elim n.0 [ inl q ↦ omega arith | inr b ↦ omega arith ])
same (ByCharacter i j k o) (ByNumber h l) x y more m n e =
    let here : ◌≡◌ {A = ℕ} 0x75 0x78 = cc e in absurd (omega arith)
same (ByCharacter a b c d) (ByCharacter i j k l) x y more m n e =
    let p : a ≡ i = cc e in
    let q : b ≡ j = cc e in
    let r : c ≡ k = cc e in
    let s : d ≡ l = cc e in
    let number : number_of a b c d ≡ number_of i j k l = cc (p, q, r, s) in
    (one_byte x y (number_of i j k l) (m.4 ∙ ap (λ z. Some z) number) n.4, cc e)

pub one_spelling : (a b : List ℕ) (x y : ℕ) (more : List ℕ) → Spells a x → Spells b y → a ++ more ≡ b
    → (x ≡ y) × (more ≡ [])
one_spelling a b x y more s t e =
    same s.0 t.0 x y more s.2 t.2 (ap (λ l. l ++ more) (sym s.1) ∙ e ∙ t.1)
