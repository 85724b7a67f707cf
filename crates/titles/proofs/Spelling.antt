-- How escapes begin, and how a string is written.
use Rattle.std.proofs.Common.{◌≡◌, ◌≢◌, ℕ, List, [], ◌∷◌, ◌++◌, false, refl, sym, ap, ◌∙◌, subst, arith}
use Rattle.std.proofs.Common.{append-nil, append_assoc, flat_map}
use Rattle.std.proofs.lemmas.Bool.Decides.{nat_tests}
use Rattle.std.proofs.lemmas.Str.{encodes-append}
use Rattle.std.specs.Char.{encode_utf8}
use Rattle.std.specs.Prelude.{encode_utf8_all}
use Rattle.rds_text.specs.Quoted.{Way, Plain, Escaped, ByNumber, ByCharacter, Spells, written}
use Rattle.titles.specs.Strings.{IsEscape, is_plain, string_of}
use Rattle.titles.specs.Parts.{IsEndOfPlain}

not_plain : (c : ℕ) → c ≢ 0x22 → c ≢ 0x5C → is_plain c ≡ false → ⊥
not_plain c no_quote no_backslash ends = grind (arith, nat_tests)

-- what spells a byte where no character stands for itself begins with a backslash
pub escape_front : (rest front more : List ℕ) (byte : ℕ) → IsEndOfPlain rest → rest ≡ front ++ more
    → Spells front byte → IsEscape front byte
escape_front rest front more byte ends is (Plain c, eq, means) =
    let here : is_plain c ≡ false = subst IsEndOfPlain (is ∙ ap (λ f. f ++ more) eq) ends in
    absurd (not_plain c means.0 means.1 here)
escape_front rest front more byte ends is (Escaped c, eq, means) = (c ∷ [], eq, (Escaped c, eq, means))
escape_front rest front more byte ends is (ByNumber high low, eq, means) =
    (0x78 ∷ high ∷ low ∷ [], eq, (ByNumber high low, eq, means))
escape_front rest front more byte ends is (ByCharacter a b c d, eq, means) =
    (0x75 ∷ a ∷ b ∷ c ∷ d ∷ [], eq, (ByCharacter a b c d, eq, means))

-- a quote, bytes and a quote, one behind the other
pub string_whole : (old bytes : List ℕ)
    → ((old ++ encode_utf8 0x22) ++ encode_utf8_all (flat_map written bytes)) ++ encode_utf8 0x22
    ≡ old ++ encode_utf8_all (string_of bytes)
string_whole old bytes =
    let quote = encode_utf8 0x22 in
    let inner = encode_utf8_all (flat_map written bytes) in
    append_assoc (old ++ quote) inner quote ∙ append_assoc old quote (inner ++ quote)
    ∙ ap (λ l. old ++ (quote ++ l)) (ap (λ l. inner ++ l) (sym (append-nil quote))
    ∙ sym (encodes-append (flat_map written bytes) (0x22 ∷ [])))
