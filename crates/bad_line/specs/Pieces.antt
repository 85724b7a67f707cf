-- A stream of bytes as it is cut into segments (profile).
use Rattle.std.specs.Prelude.{◌≡◌, ◌≢◌, ◌≤◌, ◌⊎◌, ◌-◌, ℕ, zero, suc, false, List, [], ◌∷◌, ◌++◌, length, bit_xor}
use Rattle.std.specs.Prelude.{slice_index, slice_set, Option, Some, None}
use Rattle.std.specs.List.{list_any}
use Rattle.uecp_frame.specs.Stuffing.{is_delimiter}
use Rattle.bad_line.specs.declared.rules.fate.Fate.{Fate}

-- What came: a byte that is in no segment; or a segment, from its FE to its FF, with what comes of it.
pub data Piece : Type 0 where
  Byte : ℕ → Piece
  Segment : List ℕ → Fate → Piece

-- The bytes that came.
abbrev pub bytes_of : List Piece → List ℕ
bytes_of [] = []
bytes_of (Byte byte ∷ pieces) = byte ∷ bytes_of pieces
bytes_of (Segment segment fate ∷ pieces) = segment ++ bytes_of pieces

-- What came of the segments among them.
abbrev pub fates_of : List Piece → List Fate
fates_of [] = []
fates_of (Byte byte ∷ pieces) = fates_of pieces
fates_of (Segment segment fate ∷ pieces) = fate ∷ fates_of pieces

-- ---- Where segments are.

-- A segment is FE, at most 1,022 bytes that are neither FE nor FF, and FF.
abbrev pub IsSegment : List ℕ → Type 0
IsSegment segment = (inner : List ℕ) × (segment ≡ 0xFE ∷ (inner ++ 0xFF ∷ [])) × (list_any is_delimiter inner ≡ false)
    × (length inner ≤ 1022)

-- No segment begins with the byte before the rest, whatever comes: it is no FE; or behind it another FE comes first, or
-- 1,023 bytes that are neither FE nor FF.
abbrev pub BeginsNone : (byte : ℕ) → (rest : List ℕ) → Type 0
BeginsNone byte rest = (byte ≢ 0xFE) ⊎ ((inner : List ℕ) × (after : List ℕ) × (rest ≡ inner ++ after)
    × (list_any is_delimiter inner ≡ false)
    × ((1023 ≤ length inner) ⊎ ((more : List ℕ) × (after ≡ 0xFE ∷ more))))

-- What is held is nothing, or the beginning of a segment: FE, and at most 1,022 bytes that are neither FE nor FF.
abbrev pub IsHeld : List ℕ → Type 0
IsHeld [] = Unit {0}
IsHeld (byte ∷ inner) = (byte ≡ 0xFE) × (list_any is_delimiter inner ≡ false) × (length inner ≤ 1022)

-- Pieces, and what is held behind them, are how their bytes are cut: each segment is one, and with no other byte one
-- begins.
abbrev pub AreCut : List Piece → (held : List ℕ) → Type 0
AreCut [] held = IsHeld held
AreCut (Byte byte ∷ pieces) held = BeginsNone byte (bytes_of pieces ++ held) × AreCut pieces held
AreCut (Segment segment fate ∷ pieces) held = IsSegment segment × AreCut pieces held

-- ---- What comes out.

-- A byte that is damaged comes with one bit turned.
abbrev pub damaged_byte : ℕ → ℕ
damaged_byte byte = bit_xor byte 0x20

-- A segment with the byte at this place damaged, counted from 1, or with none.
abbrev pub with_damage : (place : Option ℕ) → (segment : List ℕ) → List ℕ
with_damage None segment = segment
with_damage (Some place) segment = slice_set segment (place - 1) (damaged_byte (slice_index segment (place - 1)))

-- A segment so many times.
abbrev pub times : ℕ → (segment : List ℕ) → List ℕ
times zero segment = []
times (suc count) segment = times count segment ++ segment

-- What comes out of a segment.
abbrev pub out_of_segment : Fate → (segment : List ℕ) → List ℕ
out_of_segment fate segment = times fate.copies (with_damage fate.damaged segment)

-- What comes out of what came: each byte that is in no segment, and what comes of each segment, in order.
abbrev pub out_of : List Piece → List ℕ
out_of [] = []
out_of (Byte byte ∷ pieces) = byte ∷ out_of pieces
out_of (Segment segment fate ∷ pieces) = out_of_segment fate segment ++ out_of pieces
