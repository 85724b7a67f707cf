use Rattle.std.proofs.Common.{◌≡◌, ◌++◌, List, Some, map}
use Rattle.toml.specs.View.{members_view}
use Rattle.toml.proofs.Views.{Entry}
use Rattle.option_files.specs.Entries.{entries_of, entry_view}
use Rattle.option_files.proofs.entries.entries_in.Given as goal

-- the entries so far are those of the members so far
abbrev pub invariant-loop-name : goal.invariant-loop-name
invariant-loop-name l =
    (done : List Entry) × (l.fn.table.entries ≡ done ++ l.name-iterator)
    × (entries_of (members_view done) ≡ Some (map entry_view l.entries.items))
