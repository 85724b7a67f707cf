use Rattle.std.proofs.Common.{rules, ◌≡◌, Err, sym, subst}
use Rattle.uecp_text.specs.Run.{RunsWhole, RunsInto}
use Rattle.uecp_text.proofs.Wholes.{whole_written, whole_begun}
use Rattle.uecp_text.proofs.interpreter.run.Goals as goal

pub returns-in_err-write_out : goal.returns-in_err-write_out
returns-in_err-write_out g c =
    let left = g.R.Read.remaining in
    let held = g.W.Write.contents in
    let ran = c.run_into-ran in
    let fault = c.in_err-write_out.field-0.0 in
    let same : c.from_residual-in_err-write_out.result ≡ Err fault = search rules in
    subst (λ result. RunsWhole g.I.Interpreter.meaning c.args.interpreter.now g.I.Interpreter.closing
    (left c.args.reader.now) (left c.read_all.new.reader) (held c.args.writer.now) (held c.write_out.new.writer)
    result) (sym same)
    (whole_begun g.I.Interpreter.meaning c.args.interpreter.now g.I.Interpreter.closing (left c.args.reader.now)
    (left c.read_all.new.reader) (held c.args.writer.now) (held c.write_out.new.writer)
    c.new-output.result ran.new.output c.in_ok-input.input.items ran.result c.in_ok-input.ensures.input
    c.new-output.ensures.empty c.new-output.ensures.whole
    (subst (λ input. RunsInto g.I.Interpreter.meaning c.args.interpreter.now g.I.Interpreter.closing input
    c.new-output.result ran.result ran.new.output) c.as_slice.ensures.value ran.ensures)
    fault c.in_err-write_out.ensures.failed c.write_out.ensures.begun)

pub returns : goal.returns
returns g c =
    let left = g.R.Read.remaining in
    let held = g.W.Write.contents in
    let ran = c.run_into-ran in
    whole_written g.I.Interpreter.meaning c.args.interpreter.now g.I.Interpreter.closing (left c.args.reader.now)
    (left c.read_all.new.reader) (held c.args.writer.now) (held c.write_out.new.writer)
    c.new-output.result ran.new.output c.in_ok-input.input.items ran.result c.in_ok-input.ensures.input
    c.new-output.ensures.empty c.new-output.ensures.whole
    (subst (λ input. RunsInto g.I.Interpreter.meaning c.args.interpreter.now g.I.Interpreter.closing input
    c.new-output.result ran.result ran.new.output) c.as_slice.ensures.value ran.ensures)
    c.in_ok-write_out.ensures.written
