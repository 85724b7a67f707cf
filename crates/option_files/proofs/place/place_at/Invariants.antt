use Rattle.std.proofs.Common.{◌≡◌, ◌+◌, ◌≤◌, take}
use Rattle.std.specs.List.{count_by}
use Rattle.option_files.specs.Places.{is_feed, is_first, last_line}
use Rattle.option_files.proofs.place.place_at.Given as goal

-- the place is that of the byte at the index
abbrev pub invariant-loop-byte : goal.invariant-loop-byte
invariant-loop-byte l = (l.place.line ≡ count_by is_feed (take l.byte-index l.byte-items) + 1)
    × (l.place.column ≡ count_by is_first (last_line (take l.byte-index l.byte-items)) + 1)
    × (l.place.line ≤ l.byte-index + 1) × (l.place.column ≤ l.byte-index + 1)
