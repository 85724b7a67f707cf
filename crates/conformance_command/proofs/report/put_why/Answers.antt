use Rattle.std.proofs.Common.{rules, ◌≡◌, codes, sym, subst}
use Rattle.uecp_text.specs.Digits.{decimal_word}
use Rattle.uecp_text.specs.Written.{Adds}
use Rattle.uecp_text.proofs.Public.{adds_then}
use Rattle.conformance_command.specs.declared.went.Went.TheVariants.{NotSent, NotQuiet}
use Rattle.conformance_command.specs.Telling.{why_words}
use Rattle.conformance_command.proofs.report.put_why.Goals as goal

pub returns-in-NotSent : goal.returns-in-NotSent
returns-in-NotSent c =
    let is : c.args.went ≡ NotSent c.in-NotSent.written = search rules in
    subst (λ w. Adds c.args.output.now c.decimal.new.self (why_words w)) (sym is)
    (adds_then c.args.output.now c.text-in-NotSent.new.self c.decimal.new.self (codes "not sent behind byte")
    (decimal_word c.in-NotSent.written) c.text-in-NotSent.ensures.added c.decimal.ensures.added)

pub returns-in-NotQuiet : goal.returns-in-NotQuiet
returns-in-NotQuiet c =
    let is : c.args.went ≡ NotQuiet = search rules in
    subst (λ w. Adds c.args.output.now c.text-in-NotQuiet.new.self (why_words w)) (sym is)
    c.text-in-NotQuiet.ensures.added
