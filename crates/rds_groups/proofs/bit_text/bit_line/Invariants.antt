use Rattle.std.proofs.Common.{◌≡◌, map, length, take}
use Rattle.rds_groups.specs.Text.{character_of}
use Rattle.rds_groups.proofs.bit_text.bit_line.Given as goal

-- the characters that were written are those of the bits
abbrev pub invariant-loop-place : goal.invariant-loop-place
invariant-loop-place l =
    (length l.line ≡ 104) × (take l.place l.line ≡ map character_of (take l.place l.bits))
