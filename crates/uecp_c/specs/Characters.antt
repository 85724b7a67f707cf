-- The character set for C (IEC 62106, basic character set; profile for 0).
use Rattle.std.specs.Prelude.{◌≡◌, ◌≢◌, ◌⊎◌, ℕ, Some}
use Rattle.std.specs.Option.{option_map_or}
use Rattle.rds_text.specs.BasicSet.{character_of}

-- The Unicode number of the character that a byte stands for, 0 where it stands for none (profile).
abbrev pub character_or_zero : ℕ → ℕ
character_or_zero byte = option_map_or (λ c. c) (character_of byte) 0

-- The byte stands for the character; or it is 0, and none does (profile).
abbrev pub IsByteOf : (character byte : ℕ) → Type 0
IsByteOf character byte =
    (character_of byte ≡ Some character) ⊎ ((byte ≡ 0) × ((other : ℕ) → character_of other ≢ Some character))
