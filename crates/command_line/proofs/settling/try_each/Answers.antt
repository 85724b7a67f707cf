use Rattle.std.proofs.Common.{rules, ◌≡◌, Err, map, string_bytes, subst}
use Rattle.std.specs.List.{All}
use Rattle.std.proofs.lemmas.List.{take_all}
use Rattle.option_files.specs.Entries.{entry_view}
use Rattle.option_files.specs.Words.{words_to_try}
use Rattle.command_line.specs.Settled.{AreTaken}
use Rattle.command_line.proofs.Refusals.{refused_one, taken_more}
use Rattle.command_line.proofs.settling.try_each.Goals as goal

pub returns-in_err-try_entry-clause-refused : goal.returns-in_err-try_entry-clause-refused
returns-in_err-try_entry-clause-refused c =
    let err : c.from_residual.result ≡ Err c.in_err-try_entry.field-0.0 = search rules in
    rw err (refused_one (map string_bytes c.args.given.now) c.args.entries.now c.loop-entry.entry-index
    c.entry-item.result c.in_err-try_entry.field-0.0 c.loop-entry-test.true c.entry-item.is
    c.in_err-try_entry.ensures.refused)

pub loop-entry-preserved : goal.loop-entry-preserved
loop-entry-preserved c =
    taken_more (λ entry. AreTaken (words_to_try (map string_bytes c.args.given.now) entry)) c.args.entries.now
    c.loop-entry.entry-index c.entry-item.result c.loop-entry-test.true c.entry-item.is c.loop-entry.invariant
    c.in_ok-try_entry.ensures.taken

pub returns-clause-taken : goal.returns-clause-taken
returns-clause-taken c =
    subst (λ es. All (λ entry. AreTaken (words_to_try (map string_bytes c.args.given.now) entry)) (map entry_view es))
    (take_all c.loop-entry.entry-index c.args.entries.now c.loop-entry-test.false) c.loop-entry.invariant
