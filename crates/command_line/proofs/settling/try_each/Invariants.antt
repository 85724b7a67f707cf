use Rattle.std.proofs.Common.{map, take, string_bytes}
use Rattle.std.specs.List.{All}
use Rattle.option_files.specs.Words.{words_to_try}
use Rattle.option_files.specs.Entries.{entry_view}
use Rattle.command_line.specs.Settled.{AreTaken}
use Rattle.command_line.proofs.settling.try_each.Given as goal

-- each entry so far is taken alone
abbrev pub invariant-loop-entry : goal.invariant-loop-entry
invariant-loop-entry l = All (λ entry. AreTaken (words_to_try (map string_bytes l.given) entry))
    (map entry_view (take l.entry-index l.entries))
