-- A group as it came: the word of each block whose check is right.
use Rattle.std.specs.Prelude.{ℕ, List, Option, Some, None, slice_index}
use Rattle.rds_groups.specs.Blocks.{value_of, word_of}
use Rattle.rds_groups.specs.Groups.{third_offset}
use Rattle.rds_groups.specs.declared.offset_word.OffsetWord.TheVariants.{A, B, D}
use Rattle.rds_groups.specs.declared.group.Group.{Group}
use Rattle.rds_groups.specs.declared.heard.HeardGroup.{HeardGroup}

-- A group of which each block came.
abbrev pub whole : Group → HeardGroup
whole g =
    record { block1 = Some g.block1; block2 = Some g.block2; block3 = Some g.block3; block4 = Some g.block4 }

-- Which offset word block 3 has says block 2; where that is missing, so is block 3. (IEC 62106, offset words)
abbrev pub third : (block2 : Option ℕ) → (bits : ℕ) → Option ℕ
third None bits = None
third (Some block2) bits = word_of bits (value_of (third_offset block2))

-- Of four blocks of 26 bits each has its word where it is a block of its place, and is missing elsewhere.
abbrev pub came : (blocks : List ℕ) → HeardGroup
came blocks =
    let second = word_of (slice_index blocks 1) (value_of B) in
    record {
      block1 = word_of (slice_index blocks 0) (value_of A);
      block2 = second;
      block3 = third second (slice_index blocks 2);
      block4 = word_of (slice_index blocks 3) (value_of D);
    }
