-- Bits as text: the characters 0 and 1. (profile)
use Rattle.std.specs.Prelude.{ℕ, ◌==◌, Bool, true, false, List, Option, Some, None, map, if◌then◌else◌}
use Rattle.std.specs.List.{filter_map}
use Rattle.rds_groups.specs.Groups.{bits}
use Rattle.rds_groups.specs.declared.group.Group.{Group}
use Rattle.rds_groups.specs.declared.heard.HeardGroup.{HeardGroup}
use Rattle.rds_groups.specs.Sync.{step}
use Rattle.rds_groups.specs.declared.synchroniser.Synchroniser.{Synchroniser}

-- The character of a bit.
abbrev pub character_of : Bool → ℕ
character_of b = if b then 0x31 else 0x30

-- The bit that a character is, if it is one.
abbrev pub bit_of : (character : ℕ) → Option Bool
bit_of character = if character == 0x30 then Some false else if character == 0x31 then Some true else None

-- The bits of a text: characters that are none are passed over.
abbrev pub bits_of : (text : List ℕ) → List Bool
bits_of text = filter_map bit_of text

-- The 104 bits of a group as characters, the first to go out first.
abbrev pub bit_line : Group → List ℕ
bit_line g = map character_of (bits g)

-- What a character brings: what its bit brings, and nothing if it is none.
abbrev pub bit_step : Option Bool → Synchroniser → Synchroniser × Option HeardGroup
bit_step None s = (s, None)
bit_step (Some b) s = step b s

abbrev pub character_step : (character : ℕ) → Synchroniser → Synchroniser × Option HeardGroup
character_step character s = bit_step (bit_of character) s
