-- What is written of tokens are characters of Unicode, which UTF-8 gives back.
use Rattle.std.proofs.Common.{◌≡◌, ◌==◌, ◌/◌, ◌%◌, ℕ, ◌≤◌, ◌<◌, List, [], ◌∷◌, ◌++◌, true, false, refl}
use Rattle.std.proofs.Common.{arith, flat_map, Bool, Option, Some, None, if◌then◌else◌}
use Rattle.std.proofs.Math.Utf8.{scalar, scalars, low_scalar}
use Rattle.std.proofs.lemmas.Str.{chars-encodes}
use Rattle.std.proofs.lemmas.Bool.Decides.{nat_tests}
use Rattle.std.specs.Cmp.Derive.{both_true}
use Rattle.std.specs.List.{AllByRecursion, list_all}
use Rattle.std.specs.Option.{option_map_or}
use Rattle.std.specs.Str.{chars, encode_utf8_all, IsUtf8}
use Rattle.rds_text.specs.BasicSet.{character_of}
use Rattle.rds_text.specs.Quoted.{written, hex_digit}
use Rattle.rds_text.proofs.Public.{small}
use Rattle.phrase_tokens.specs.Tokens.{Token, Word, Quoted, Semicolon, IsToken, is_word_character}
use Rattle.phrase_tokens.specs.Tokens.{written_token, written_behind, written_tokens}
use Rattle.phrase_tokens.proofs.Characters.{OfWord, of_word, both}

pub scalars_then : (xs ys : List ℕ) → scalars xs ≡ true → scalars ys ≡ true → scalars (xs ++ ys) ≡ true
scalars_then [] ys p q = q
scalars_then (x ∷ xs) ys p q =
    let each = both (scalar x) (scalars xs) p in both_true each.0 (scalars_then xs ys each.1 q)

-- A character in front of others.
scalars_more : (c : ℕ) (cs : List ℕ) → c < 0xD800 → scalars cs ≡ true → scalars (c ∷ cs) ≡ true
scalars_more c cs below all = both_true (low_scalar c below) all

digit_small : (n : ℕ) → n < 16 → hex_digit n < 0xD800
digit_small n few = grind (arith, nat_tests)

-- A byte that is no quote and no backslash.
other : (byte : ℕ) (o : Option ℕ) → character_of byte ≡ o → byte ≤ 0xFF
    → scalars (option_map_or (λ c. c ∷ []) o (0x5C ∷ 0x78 ∷ hex_digit (byte / 16) ∷ hex_digit (byte % 16) ∷ [])) ≡ true
other byte (Some c) is few = scalars_more c [] (small byte c is) refl
other byte None is few =
    let high = hex_digit (byte / 16) in
    let low = hex_digit (byte % 16) in
    let last : scalars (low ∷ []) ≡ true = scalars_more low [] (digit_small (byte % 16) (omega arith)) refl in
    let both : scalars (high ∷ low ∷ []) ≡ true =
    scalars_more high (low ∷ []) (digit_small (byte / 16) (omega arith)) last in
    scalars_more 0x5C (0x78 ∷ high ∷ low ∷ []) (omega arith)
    (scalars_more 0x78 (high ∷ low ∷ []) (omega arith) both)

pub written_scalars : (byte : ℕ) → byte ≤ 0xFF → scalars (written byte) ≡ true
written_scalars byte few = by (byte == 0x22) (byte == 0x5C)
  where
    by : (q b : Bool)
        → scalars (if q then 0x5C ∷ 0x22 ∷ []
        else if b then 0x5C ∷ 0x5C ∷ []
        else option_map_or (λ c. c ∷ []) (character_of byte)
        (0x5C ∷ 0x78 ∷ hex_digit (byte / 16) ∷ hex_digit (byte % 16) ∷ [])) ≡ true
    by true b = refl
    by false true = refl
    by false false = other byte (character_of byte) refl few

each_scalars : (bytes : List ℕ) → AllByRecursion (λ b. b ≤ 0xFF) bytes → scalars (flat_map written bytes) ≡ true
each_scalars [] all = refl
each_scalars (b ∷ bytes) all =
    scalars_then (written b) (flat_map written bytes) (written_scalars b all.0) (each_scalars bytes all.1)

word_scalars : (w : List ℕ) → list_all is_word_character w ≡ true → scalars w ≡ true
word_scalars [] all = refl
word_scalars (c ∷ w) all =
    let each = both (is_word_character c) (list_all is_word_character w) all in
    let is : OfWord c = of_word c each.0 in
    let most = is.most in
    scalars_more c w (omega arith) (word_scalars w each.1)

pub token_scalars : (t : Token) → IsToken t → scalars (written_token t) ≡ true
token_scalars (Word w) is = word_scalars w is.2
token_scalars (Quoted bytes) is =
    scalars_more 0x22 (flat_map written bytes ++ 0x22 ∷ []) (omega arith)
    (scalars_then (flat_map written bytes) (0x22 ∷ []) (each_scalars bytes is.1) refl)
token_scalars Semicolon is = refl

behind_scalars : (ts : List Token) → AllByRecursion IsToken ts → scalars (written_behind ts) ≡ true
behind_scalars [] all = refl
behind_scalars (Word w ∷ ts) all =
    scalars_more 0x20 (written_token (Word w) ++ written_behind ts) (omega arith)
    (scalars_then (written_token (Word w)) (written_behind ts) (token_scalars (Word w) all.0) (behind_scalars ts all.1))
behind_scalars (Quoted bytes ∷ ts) all =
    scalars_more 0x20 (written_token (Quoted bytes) ++ written_behind ts) (omega arith)
    (scalars_then (written_token (Quoted bytes)) (written_behind ts) (token_scalars (Quoted bytes) all.0)
    (behind_scalars ts all.1))
behind_scalars (Semicolon ∷ ts) all = scalars_more 0x3B (written_behind ts) (omega arith) (behind_scalars ts all.1)

tokens_scalars : (ts : List Token) → AllByRecursion IsToken ts → scalars (written_tokens ts) ≡ true
tokens_scalars [] all = refl
tokens_scalars (t ∷ ts) all =
    scalars_then (written_token t) (written_behind ts) (token_scalars t all.0) (behind_scalars ts all.1)

pub through_utf8 : (ts : List Token) → AllByRecursion IsToken ts
    → IsUtf8 (encode_utf8_all (written_tokens ts)) × (chars (encode_utf8_all (written_tokens ts)) ≡ written_tokens ts)
through_utf8 ts all =
    let scalar = tokens_scalars ts all in
    ((written_tokens ts, (scalar, refl)), chars-encodes (written_tokens ts) scalar)
