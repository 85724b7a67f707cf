-- Messages in words, for C (profile).
use Rattle.std.specs.Prelude.{◌≡◌, ◌⊎◌, ◌-◌, ◌^◌, ℕ, Bool, true, false, List, length, encode_utf8_all}
use Rattle.c_values.specs.Buffers.{filled}
use Rattle.rds_text.specs.declared.programme_type.Region.{Region}
use Rattle.rds_text.specs.declared.programme_type.Region.TheVariants.{Europe, NorthAmerica}
use Rattle.phrase_tokens.specs.Tokens.{written_tokens}
use Rattle.uecp_phrases.specs.Written.{line_of}

-- North America, or else Europe (IEC 62106, programme types).
abbrev pub region_of : Bool → Region
region_of true = NorthAmerica
region_of false = Europe

-- The line of a message, in UTF-8 (profile).
abbrev pub words_of : Region → (message : List ℕ) → List ℕ
words_of region message = encode_utf8_all (written_tokens (line_of region message))

-- The bytes were put into the buffer where they fit, and counted; or memory was refused, which the greatest number of
-- 64 bits says, and the buffer is as it was (profile).
abbrev pub IsPutOrRefused : (bytes old new : List ℕ) → (answer : ℕ) → Type 0
IsPutOrRefused bytes old new answer =
    ((answer ≡ length bytes) × (new ≡ filled bytes old)) ⊎ ((answer ≡ 2 ^ 64 - 1) × (new ≡ old))
