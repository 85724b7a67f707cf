-- With what characters tokens begin, and what splits a text in one way.
use Rattle.std.proofs.Common.{◌≡◌, ◌≢◌, ℕ, zero, suc, ◌≤◌, List, [], ◌∷◌, ◌++◌, true, false, refl, sym}
use Rattle.std.proofs.Common.{◌⊎◌, inl, inr, arith, replicate, ◌&&◌, Bool}
use Rattle.std.proofs.lemmas.Bool.Decides.{nat_tests}
use Rattle.rds_text.specs.Quoted.{Way, Plain, Escaped, ByNumber, ByCharacter, characters, Means, Spells}
use Rattle.phrase_tokens.specs.Tokens.{Token, Word, Quoted, Semicolon, is_word_character, SpellsToken}

-- A character of a word is none of the others.
pub record OfWord (c : ℕ) : Type 0 where
  pub least : 0x21 ≤ c
  pub most : c ≤ 0x7E
  pub no_quote : c ≢ 0x22
  pub no_semicolon : c ≢ 0x3B

pub of_word : (c : ℕ) → is_word_character c ≡ true → OfWord c
of_word c is = record {
  least = grind (arith, nat_tests);
  most = grind (arith, nat_tests);
  no_quote = grind (arith, nat_tests);
  no_semicolon = grind (arith, nat_tests);
}

-- Both parts of a test that holds.
pub both : (a b : Bool) → (a && b) ≡ true → (a ≡ true) × (b ≡ true)
both true true e = (refl, refl)
both true false e = absurd (cc e)
both false true e = absurd (cc e)
both false false e = absurd (cc e)

-- A list begins with a character that is another than this.
pub record BeginsNot (other : ℕ) (text : List ℕ) : Type 0 where
  pub first : ℕ
  pub more : List ℕ
  pub is : text ≡ first ∷ more
  pub is_not : first ≢ other

-- No token begins with a space.
pub token_begins : (t : Token) (front : List ℕ) → SpellsToken t front → BeginsNot 0x20 front
token_begins (Word []) front s = absurd (omega arith)
token_begins (Word (c ∷ w)) front s =
    let is : OfWord c = of_word c (both _ _ s.0.2).0 in
    let least = is.least in
    record { first = c; more = w; is = s.1; is_not = λ e. omega arith }
token_begins (Quoted bytes) front s =
    record { first = 0x22; more = s.0 ++ 0x22 ∷ []; is = s.1; is_not = λ e. omega arith }
token_begins Semicolon front s = record { first = 0x3B; more = []; is = s; is_not = λ e. omega arith }

-- No spelling of a byte begins with a quote.
pub byte_begins : (front : List ℕ) (byte : ℕ) → Spells front byte → BeginsNot 0x22 front
byte_begins front byte s = by s.0 s.1 s.2
  where
    by : (way : Way) → front ≡ characters way → Means way byte → BeginsNot 0x22 front
    by (Plain c) is means = record { first = c; more = []; is = is; is_not = means.0 }
    by (Escaped c) is means = record { first = 0x5C; more = c ∷ []; is = is; is_not = λ e. omega arith }
    by (ByNumber a b) is means = record { first = 0x5C; more = 0x78 ∷ a ∷ b ∷ []; is = is; is_not = λ e. omega arith }
    by (ByCharacter a b c d) is means =
        record { first = 0x5C; more = 0x75 ∷ a ∷ b ∷ c ∷ d ∷ []; is = is; is_not = λ e. omega arith }

-- Of two fronts of one text one begins the other.
pub front_of : (a x b y : List ℕ) → a ++ x ≡ b ++ y
    → ((z : List ℕ) × (a ++ z ≡ b) × (x ≡ z ++ y)) ⊎ ((z : List ℕ) × (b ++ z ≡ a) × (y ≡ z ++ x))
front_of [] x b y e = inl (b, refl, e)
front_of (c ∷ a) x [] y e = inr (c ∷ a, refl, sym e)
front_of (c ∷ a) x (d ∷ b) y e =
    let here : c ≡ d = cc e in
    let there : a ++ x ≡ b ++ y = cc e in
    elim (front_of a x b y there) [
      | inl (z, p, q) ↦ inl (z, cc (p, here), q)
      | inr (z, p, q) ↦ inr (z, cc (p, here), q)
    ]

-- What stands behind spaces begins at one place.
pub behind_spaces : (a b : ℕ) (c d : ℕ) (x y : List ℕ) → c ≢ 0x20 → d ≢ 0x20
    → replicate a 0x20 ++ c ∷ x ≡ replicate b 0x20 ++ d ∷ y → c ∷ x ≡ d ∷ y
behind_spaces zero zero c d x y p q e = e
behind_spaces zero (suc b) c d x y p q e = absurd (p (cc e))
behind_spaces (suc a) zero c d x y p q e = absurd (q (cc e))
behind_spaces (suc a) (suc b) c d x y p q e = behind_spaces a b c d x y p q (cc e)

-- Spaces alone hold nothing else.
pub spaces_alone : (n a : ℕ) (c : ℕ) (x : List ℕ) → c ≢ 0x20 → replicate n 0x20 ≡ replicate a 0x20 ++ c ∷ x → ⊥
spaces_alone zero zero c x p e = cc e
spaces_alone zero (suc a) c x p e = cc e
spaces_alone (suc n) zero c x p e = p (cc e)
spaces_alone (suc n) (suc a) c x p e = spaces_alone n a c x p (cc e)
