use Rattle.std.proofs.Common.{map, ap, subst, ◌∙◌, Some}
use Rattle.std.specs.String.{string_bytes}
use Rattle.clap.specs.Words.{found_of, rows_of}
use Rattle.command_line.specs.CommandLine.{IsFullOf}
use Rattle.command_line.proofs.Asked.{are_in_range, asks, no_other, faultless_of, faulty_of, met_of}
use Rattle.command_line.proofs.Asked.{refuses_job, refuses_words}
use Rattle.command_line.proofs.parsing.parse.Goals as goal

pub returns-in_err-matches-clause-refused : goal.returns-in_err-matches-clause-refused
returns-in_err-matches-clause-refused c =
    let words = map string_bytes c.args.words.now in
    let error = c.in_err-matches.field-0.0 in
    refuses_words words error c.from_residual-in_err-matches.result
    (faulty_of _ words error c.in_ok-program.ensures c.in_err-matches.ensures.kinds)
    c.from_residual-in_err-matches.ensures.1

pub unreachable-requires : goal.unreachable-requires
unreachable-requires c =
    let words = map string_bytes c.args.words.now in
    let met = met_of _ words c.in_ok-matches.matches c.in_ok-program.ensures c.in_ok-matches.ensures.matches in
    let none = faultless_of _ words c.in_ok-program.ensures c.in_ok-matches.ensures.kinds in
    no_other words c.in_ok-matches.matches c.in-Some.word.now c.in-Some.ensures.name met none
    (λ command is. c.named.ensures.none command c.in-None-named.is is)

pub returns-in-Ok-clause-asked : goal.returns-in-Ok-clause-asked
returns-in-Ok-clause-asked c =
    let words = map string_bytes c.args.words.now in
    let now = c.in-Some in
    let rows = rows_of (found_of now.found.now) in
    let full = c.in-Ok.job in
    let met = met_of _ words c.in_ok-matches.matches c.in_ok-program.ensures c.in_ok-matches.ensures.matches in
    let none = faultless_of _ words c.in_ok-program.ensures c.in_ok-matches.ensures.kinds in
    asks words c.in_ok-matches.matches now.word.now rows full c.in_short.result now.ensures.name now.ensures.rows met
    none (subst (λ name. IsFullOf name rows full) c.in-Some-named.ensures.named c.in-Ok.ensures.full)
    c.in_short.ensures.short

pub returns-in-Ok-clause-range : goal.returns-in-Ok-clause-range
returns-in-Ok-clause-range c =
    are_in_range _ (rows_of (found_of c.in-Some.found.now)) c.in-Ok.job c.in_short.result c.in-Ok.ensures.full
    c.in_short.ensures.same

pub returns-in-Some-named-clause-refused : goal.returns-in-Some-named-clause-refused
returns-in-Some-named-clause-refused c =
    let words = map string_bytes c.args.words.now in
    let now = c.in-Some in
    let rows = rows_of (found_of now.found.now) in
    let met = met_of _ words c.in_ok-matches.matches c.in_ok-program.ensures c.in_ok-matches.ensures.matches in
    refuses_job words c.in_ok-matches.matches c.in-Some-named.command rows c.in-Err.why
    (ap Some c.in-Some-named.ensures.named ∙ now.ensures.name) now.ensures.rows met c.in-Err.ensures.refused
