-- A group: four words of 16 bits, and where they have what. (IEC 62106, baseband coding)
use Rattle.std.specs.Prelude.{ℕ, ◌+◌, ◌-◌, ◌*◌, ◌/◌, ◌%◌, ◌^◌, ◌≡◌, ◌==◌, Bool, true, false, List, [], ◌∷◌}
use Rattle.std.specs.Prelude.{map, slice_index, if◌then◌else◌}
use Rattle.std.specs.List.{range_with_len}
use Rattle.rds_groups.specs.Blocks.{block, value_of}
use Rattle.rds_groups.specs.declared.offset_word.OffsetWord.{OffsetWord}
use Rattle.rds_groups.specs.declared.offset_word.OffsetWord.TheVariants.{A, B, C, CPrime, D}
use Rattle.rds_groups.specs.declared.group.Group.{Group}
use Rattle.rds_groups.specs.declared.group.Head.{Head}
use Rattle.rds_groups.specs.declared.group.Segment.{Segment}

-- ---- What block 2 has.
-- Type and version, four bits and one: 0 is 0A, 1 is 0B, 4 is 2A, 5 is 2B. (IEC 62106, group type codes)
abbrev pub kind : (block2 : ℕ) → ℕ
kind block2 = block2 / 2048

-- The bit of a word that counts so much is 1.
abbrev pub has_bit : (worth word : ℕ) → Bool
has_bit worth word = word / worth % 2 == 1

-- The programme type.
abbrev pub pty : (block2 : ℕ) → ℕ
pty block2 = block2 / 32 % 32

-- Block 2: kind, TP, PTY, and five bits whose meaning the kind gives. (IEC 62106, baseband coding)
abbrev pub second_block : (kind tp pty last : ℕ) → ℕ
second_block kind tp pty last = kind * 2048 + tp * 1024 + pty * 32 + last

-- A bit as a number.
abbrev pub bit : Bool → ℕ
bit true = 1
bit false = 0

-- ---- Characters.
-- The two characters of a block.
abbrev pub characters : (block : ℕ) → List ℕ
characters block = block / 256 ∷ block % 256 ∷ []

-- The block of two characters.
abbrev pub pair : (first second : ℕ) → ℕ
pair first second = first * 256 + second

-- ---- Groups.
-- What each group tells, and of which kind it is: a group with this head, the last five bits of block 2, and blocks 3
-- and 4. (IEC 62106, baseband coding)
abbrev pub group : (kind : ℕ) → Head → (last block3 block4 : ℕ) → Group
group kind h last block3 block4 = record {
  block1 = h.pi;
  block2 = second_block kind (bit h.tp) h.pty last;
  block3 = block3;
  block4 = block4;
}

-- The last five bits of block 2 in a group of type 0: TA, MS, the segment's bit of decoder identification, the segment.
-- (IEC 62106, type 0 groups)
abbrev pub name_bits : Segment → ℕ
name_bits s = bit s.ta * 16 + bit s.music * 8 + bit s.decoder * 4 + s.segment

-- 0A: a segment of the name in block 4, and two alternative frequencies in block 3. (IEC 62106, type 0 groups)
abbrev pub name_a : Head → Segment → (frequencies : ℕ) → Group
name_a h s frequencies = group 0 h (name_bits s) frequencies
    (pair (slice_index s.characters 0) (slice_index s.characters 1))

-- 0B: the PI stands in block 3 again. (IEC 62106, type 0 groups)
abbrev pub name_b : Head → Segment → Group
name_b h s = group 1 h (name_bits s) h.pi (pair (slice_index s.characters 0) (slice_index s.characters 1))

-- 2A: the A/B flag, and a segment of four characters. (IEC 62106, type 2 groups)
abbrev pub text_a : Head → (flag : Bool) → (segment : ℕ) → (four : List ℕ) → Group
text_a h flag segment four =
    group 4 h (bit flag * 16 + segment) (pair (slice_index four 0) (slice_index four 1))
    (pair (slice_index four 2) (slice_index four 3))

-- 2B: the A/B flag, and a segment of two characters; the PI stands in block 3 again. (IEC 62106, type 2 groups)
abbrev pub text_b : Head → (flag : Bool) → (segment : ℕ) → (two : List ℕ) → Group
text_b h flag segment two = group 5 h (bit flag * 16 + segment) h.pi (pair (slice_index two 0) (slice_index two 1))

-- ---- On the air.
-- The offset word of block 3: C' where the version, the last bit of the kind, is B. (IEC 62106, offset words)
abbrev pub third_offset : (block2 : ℕ) → OffsetWord
third_offset block2 = if has_bit 2048 block2 then CPrime else C

-- The four blocks of 26 bits in which a group goes out. (IEC 62106, baseband coding)
abbrev pub blocks : Group → List ℕ
blocks g =
    block g.block1 (value_of A) ∷ block g.block2 (value_of B) ∷ block g.block3 (value_of (third_offset g.block2))
    ∷ block g.block4 (value_of D) ∷ []

-- The bit of a group that goes out at a place, from 0: block after block, the highest bit first. (IEC 62106, baseband
-- coding)
abbrev pub bit_at : Group → (place : ℕ) → Bool
bit_at g place = has_bit (2 ^ (25 - place % 26)) (slice_index (blocks g) (place / 26))

-- The 104 bits of a group, the first to go out first.
abbrev pub bits : Group → List Bool
bits g = map (bit_at g) (range_with_len 0 104)

-- ---- How a group reads.
-- A group of a kind reads as that kind, with the head and the last five bits that it was made of.
pub record ReadsAs (kind_is : ℕ) (h : Head) (last_is : ℕ) (g : Group) : Type 0 where
  pub pi : g.block1 ≡ h.pi
  pub kind : kind g.block2 ≡ kind_is
  pub tp : has_bit 1024 g.block2 ≡ h.tp
  pub pty : pty g.block2 ≡ h.pty
  pub last : g.block2 % 32 ≡ last_is
