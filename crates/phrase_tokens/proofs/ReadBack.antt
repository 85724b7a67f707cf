-- What is written of tokens reads as these tokens, and goes through UTF-8.
use Rattle.std.proofs.Common.{◌≡◌, ℕ, ◌≤◌, List, [], ◌∷◌, false, refl, arith}
use Rattle.std.proofs.Common.{flat_map}
use Rattle.std.specs.List.{AllByRecursion}
use Rattle.rds_text.specs.Quoted.{written}
use Rattle.rds_text.proofs.Public.{read_back as byte_back}
use Rattle.phrase_tokens.specs.Tokens.{Token, Word, Quoted, Semicolon, IsToken, SpellsToken, SpellsEach, EndsBefore}
use Rattle.phrase_tokens.specs.Tokens.{Lays, goes_on, written_token, written_behind, written_tokens}

each_back : (bytes : List ℕ) → AllByRecursion (λ b. b ≤ 0xFF) bytes → SpellsEach (flat_map written bytes) bytes
each_back [] all = refl
each_back (b ∷ bytes) all =
    (written b, flat_map written bytes, refl, byte_back b (omega (arith, all.0)), each_back bytes all.1)

token_back : (t : Token) → IsToken t → SpellsToken t (written_token t)
token_back (Word w) is = (is, refl)
token_back (Quoted bytes) is = (flat_map written bytes, refl, each_back bytes is.1, is.0)
token_back Semicolon is = refl

ends_word : (ts : List Token) → goes_on (written_behind ts) ≡ false
ends_word [] = refl
ends_word (Word w ∷ ts) = refl
ends_word (Quoted bytes ∷ ts) = refl
ends_word (Semicolon ∷ ts) = refl

ends_back : (t : Token) (ts : List Token) → EndsBefore t (written_behind ts)
ends_back (Word w) ts = ends_word ts
ends_back (Quoted bytes) ts = tt
ends_back Semicolon ts = tt

behind_back : (ts : List Token) → AllByRecursion IsToken ts → Lays ts (written_behind ts)
behind_back [] all = refl
behind_back (Word w ∷ ts) all = (
  1,
  written_token (Word w),
  written_behind ts,
  refl,
  token_back (Word w) all.0,
  ends_word ts,
  behind_back ts all.1,
)
behind_back (Quoted bytes ∷ ts) all = (
  1,
  written_token (Quoted bytes),
  written_behind ts,
  refl,
  token_back (Quoted bytes) all.0,
  tt,
  behind_back ts all.1,
)
behind_back (Semicolon ∷ ts) all = (
  0,
  written_token Semicolon,
  written_behind ts,
  refl,
  refl,
  tt,
  behind_back ts all.1,
)

pub read_back : (ts : List Token) → AllByRecursion IsToken ts → Lays ts (written_tokens ts)
read_back [] all = refl
read_back (t ∷ ts) all =
    (0, written_token t, written_behind ts, refl, token_back t all.0, ends_back t ts, behind_back ts all.1)
