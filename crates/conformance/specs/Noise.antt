-- What came that is no part of a segment (profile).
use Rattle.std.specs.Prelude.{ℕ, ◌+◌, ◌==◌, ◌||◌, Bool, is_some, List, [], ◌∷◌, ◌++◌, length, Option, Some, None}
use Rattle.std.specs.Prelude.{if◌then◌else◌}
use Rattle.uecp_frame.specs.Findings.{open_bytes}

-- Behind these bytes this one stands in a segment: one is open there, or the byte opens one (SPB 490, frame format).
abbrev pub is_inside : (before : List ℕ) → (byte : ℕ) → Bool
is_inside before byte = is_some (open_bytes before) || byte == 0xFE

-- How many of the bytes that follow these stand in no segment.
abbrev pub outside_after : (before bytes : List ℕ) → ℕ
outside_after before [] = 0
outside_after before (byte ∷ bytes) =
    (if is_inside before byte then 0 else 1) + outside_after (before ++ byte ∷ []) bytes

-- How many bytes a segment at the end has that has not ended: its FE and what follows.
abbrev pub unended : Option (List ℕ) → ℕ
unended None = 0
unended (Some bytes) = 1 + length bytes

-- How many bytes are no part of a segment: those outside of all, and those of one that has not ended.
unfoldable pub noise : List ℕ → ℕ
noise bytes = outside_after [] bytes + unended (open_bytes bytes)
