-- What the check words find, and how groups read.
use Rattle.std.specs.Prelude.{ℕ, ◌+◌, ◌*◌, ◌%◌, ◌^◌, ◌<◌, ◌≤◌, ◌≡◌, ◌≢◌, Some, None, bit_xor}
use Rattle.rds_groups.specs.Groups.{group, name_bits, has_bit, ReadsAs}
use Rattle.rds_groups.specs.declared.group.Head.{Head}
use Rattle.rds_groups.specs.declared.group.Segment.{Segment}
use Rattle.rds_groups.specs.Blocks.{block, word_of}

-- A block reads back as its word.
abbrev pub ReadsBack : Type 0
ReadsBack = (word offset : ℕ) → word < 2 ^ 16 → offset < 2 ^ 10 → word_of (block word offset) offset ≡ Some word

-- A block with one offset word is no block with another.
abbrev pub IsTold : Type 0
IsTold =
    (word offset other : ℕ) → word < 2 ^ 16 → offset < 2 ^ 10 → offset ≢ other
    → word_of (block word offset) other ≡ None

-- Whatever was sent, if these bits of it come wrong no word is read.
abbrev pub IsFound : (wrong : ℕ) → Type 0
IsFound wrong =
    (word offset : ℕ) → word < 2 ^ 16 → offset < 2 ^ 10 → word_of (bit_xor (block word offset) wrong) offset ≡ None

-- A wrong bit is found.
abbrev pub OneIsFound : Type 0
OneIsFound = (i : ℕ) → i < 26 → IsFound (2 ^ i)

-- Two wrong bits are found.
abbrev pub TwoAreFound : Type 0
TwoAreFound = (i j : ℕ) → i < j → j < 26 → IsFound (2 ^ i + 2 ^ j)

-- Wrong bits that lie within ten in a row are found, however many.
abbrev pub BurstIsFound : Type 0
BurstIsFound = (burst i : ℕ) → 0 < burst → burst < 2 ^ 10 → i + 10 ≤ 26 → IsFound (burst * 2 ^ i)

-- A group of a kind reads as that kind, with the head and the bits that it was made of.
abbrev pub GroupsRead : Type 0
GroupsRead =
    (kind : ℕ) (h : Head) (last block3 block4 : ℕ) → kind < 32 → h.pty < 32 → last < 32
    → ReadsAs kind h last (group kind h last block3 block4)

-- The last five bits of a group of type 0 read as TA, MS, the bit of decoder identification and the segment.
pub record SegmentReads (s : Segment) (last : ℕ) : Type 0 where
  pub ta : has_bit 16 last ≡ s.ta
  pub music : has_bit 8 last ≡ s.music
  pub decoder : has_bit 4 last ≡ s.decoder
  pub segment : last % 4 ≡ s.segment
  pub below : last < 32

abbrev pub SegmentsRead : Type 0
SegmentsRead = (s : Segment) → s.segment < 4 → SegmentReads s (name_bits s)
