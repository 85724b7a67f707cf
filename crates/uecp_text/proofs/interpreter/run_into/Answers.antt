use Rattle.std.proofs.Common.{rules, ◌≡◌, Err, refl, sym, subst}
use Rattle.uecp_text.specs.declared.run_fault.RunFault.TheVariants.{OutOfMemory}
use Rattle.uecp_text.specs.Run.{RunsInto}
use Rattle.uecp_text.proofs.Wholes.{into_wanting, into_closed}
use Rattle.uecp_text.proofs.interpreter.run_into.Goals as goal

pub returns-in_err-check : goal.returns-in_err-check
returns-in_err-check g c =
    let refused : c.from_residual-in_err-check.result ≡ Err OutOfMemory = search rules in
    subst (λ result. RunsInto g.I.Interpreter.meaning c.args.interpreter.now g.I.Interpreter.closing c.args.input.now
    c.args.output.now result c.run_lines.new.output) (sym refused)
    (into_wanting g.I.Interpreter.meaning c.args.interpreter.now c.run_lines.new.interpreter g.I.Interpreter.closing
    c.args.output.now c.run_lines.new.output c.args.input.now c.in_ok-run_lines.ensures)

pub returns-in_err-append : goal.returns-in_err-append
returns-in_err-append g c =
    let refused : c.from_residual-in_err-append.result ≡ Err OutOfMemory = search rules in
    subst (λ result. RunsInto g.I.Interpreter.meaning c.args.interpreter.now g.I.Interpreter.closing c.args.input.now
    c.args.output.now result c.append.new.self) (sym refused)
    (subst (λ after. RunsInto g.I.Interpreter.meaning c.args.interpreter.now g.I.Interpreter.closing c.args.input.now
    c.args.output.now (Err OutOfMemory) after) (sym c.in_err-append.ensures.unchanged)
    (into_wanting g.I.Interpreter.meaning c.args.interpreter.now c.run_lines.new.interpreter g.I.Interpreter.closing
    c.args.output.now c.run_lines.new.output c.args.input.now c.in_ok-run_lines.ensures))

pub returns : goal.returns
returns g c =
    into_closed g.I.Interpreter.meaning c.args.interpreter.now c.run_lines.new.interpreter g.I.Interpreter.closing
    c.args.output.now c.run_lines.new.output c.append.new.self c.clear.new.self c.close.new.output c.args.input.now
    c.in_ok-run_lines.ensures c.clear.ensures.empty c.clear.ensures.whole c.close.ensures (c.in_ok-check.ensures.0 refl)
    c.in_ok-append.ensures.added c.in_ok-append.ensures.whole
