use Rattle.std.proofs.Common.{rules, ◌≡◌, ◌++◌, codes, sym, subst}
use Rattle.uecp_text.specs.Digits.{decimal_word}
use Rattle.uecp_text.specs.Written.{Adds}
use Rattle.uecp_text.proofs.Public.{adds_then}
use Rattle.conformance_command.specs.declared.went.Went.TheVariants.{Silent}
use Rattle.conformance_command.specs.Telling.{silent_line}
use Rattle.conformance_command.proofs.report.put_silent.Goals as goal

pub returns-in-Silent : goal.returns-in-Silent
returns-in-Silent c =
    let is : c.args.went ≡ Silent = search rules in
    subst (λ w. Adds c.args.output.now c.text-in-Silent.new.self (silent_line c.args.seconds w)) (sym is)
    (adds_then c.args.output.now c.text.new.self c.text-in-Silent.new.self (codes "Bail out! nothing came for")
    (decimal_word c.args.seconds ++ codes " s\n") c.text.ensures.added
    (adds_then c.text.new.self c.decimal.new.self c.text-in-Silent.new.self (decimal_word c.args.seconds) (codes " s\n")
    c.decimal.ensures.added c.text-in-Silent.ensures.added))
