use Rattle.std.proofs.Common.{◌≡◌, true, take}
use Rattle.std.specs.List.{list_all}
use Rattle.option_files.specs.Entries.{is_letter}
use Rattle.option_files.proofs.entries.is_name.Given as goal

-- the bytes so far are those of a name
abbrev pub invariant-loop-byte : goal.invariant-loop-byte
invariant-loop-byte l = list_all is_letter (take l.byte-index l.byte-items) ≡ true
