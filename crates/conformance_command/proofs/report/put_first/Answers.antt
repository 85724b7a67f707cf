use Rattle.std.proofs.Common.{rules, ◌≡◌, ◌++◌, false, codes, decimal, sym, subst}
use Rattle.uecp_text.specs.Written.{Adds}
use Rattle.uecp_text.proofs.Public.{adds_then}
use Rattle.conformance_command.specs.Telling.{first_line}
use Rattle.conformance_command.proofs.report.put_first.Goals as goal

pub returns-then-not-json : goal.returns-then-not-json
returns-then-not-json c =
    let is : c.args.json ≡ false = search rules in
    subst (λ json. Adds c.args.output.now c.end.new.self (first_line json c.args.cases)) (sym is)
    (adds_then c.args.output.now c.text.new.self c.end.new.self (codes "TAP version 14\n1..")
    (decimal c.args.cases ++ codes "\n") c.text.ensures.added
    (adds_then c.text.new.self c.text-then-not-json.new.self c.end.new.self (decimal c.args.cases) (codes "\n")
    (subst (λ digits. Adds c.text.new.self c.text-then-not-json.new.self digits) c.format.ensures.text
    c.text-then-not-json.ensures.added) c.end.ensures.added))
