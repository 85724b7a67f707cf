use Rattle.std.proofs.Common.{◌≡◌, ◌+◌, drop}
use Rattle.std.specs.List.{prefix_len}
use Rattle.option_files.specs.Places.{is_blank}
use Rattle.option_files.proofs.place.blanks_at.Given as goal

-- the bytes so far are blanks
abbrev pub invariant-loop-byte : goal.invariant-loop-byte
invariant-loop-byte l = (l.count ≡ l.byte-index)
    × (prefix_len is_blank l.byte-items ≡ l.count + prefix_len is_blank (drop l.byte-index l.byte-items))
