use Rattle.std.proofs.Common.{rules, ◌≡◌, Err, refl, sym, ap, subst, ◌∙◌}
use Rattle.uecp_text.specs.declared.run_fault.RunFault.TheVariants.{OutOfMemory}
use Rattle.phrase_commands.specs.Quoting.{Quotes, QuotesInto, taken}
use Rattle.phrase_commands.proofs.Ends.{all_written, not_kept, not_read, not_written}
use Rattle.phrase_commands.proofs.run.quote.Goals as goal

pub returns-in_err-input : goal.returns-in_err-input
returns-in_err-input g c =
    let left = g.R.Read.remaining in
    let held = g.W.Write.contents in
    let fault = c.in_err-input.field-0.0 in
    let same : c.from_residual.result ≡ Err fault = search rules in
    subst (Quotes (left c.args.reader.now) (left c.read_all.new.reader) (held c.args.writer.now)
    (held c.args.writer.now)) (sym same)
    (not_read (left c.args.reader.now) (left c.read_all.new.reader) (held c.args.writer.now) (held c.args.writer.now)
    fault c.in_err-input.ensures.refused refl)

pub returns-in_err-check : goal.returns-in_err-check
returns-in_err-check g c =
    let left = g.R.Read.remaining in
    let held = g.W.Write.contents in
    let same : c.from_residual-in_err-check.result ≡ Err OutOfMemory = search rules in
    subst (Quotes (left c.args.reader.now) (left c.read_all.new.reader) (held c.args.writer.now)
    (held c.args.writer.now)) (sym same)
    (not_kept (left c.args.reader.now) (left c.read_all.new.reader) (held c.args.writer.now) (held c.args.writer.now)
    c.in_ok-input.input.items c.in_ok-input.ensures.input refl)

pub returns-in_err-write_out : goal.returns-in_err-write_out
returns-in_err-write_out g c =
    let left = g.R.Read.remaining in
    let held = g.W.Write.contents in
    let ran = c.put_strings-ran in
    let fault = c.in_err-write_out.field-0.0 in
    let same : c.from_residual-in_err-write_out.result ≡ Err fault = search rules in
    subst (Quotes (left c.args.reader.now) (left c.read_all.new.reader) (held c.args.writer.now)
    (held c.write_out.new.writer)) (sym same)
    (not_written (left c.args.reader.now) (left c.read_all.new.reader) (held c.args.writer.now)
    (held c.write_out.new.writer) c.in_ok-input.input.items c.in_ok-input.ensures.input c.new-output.result
    ran.new.output c.new-output.ensures.empty (c.in_ok-check.ensures.0 refl) ran.result
    (subst (λ lines. QuotesInto lines c.new-output.result ran.new.output ran.result)
    (c.taken-lines.ensures ∙ ap taken c.as_slice.ensures.value) ran.ensures)
    fault c.in_err-write_out.ensures.failed c.write_out.ensures.begun)

pub returns : goal.returns
returns g c =
    let left = g.R.Read.remaining in
    let held = g.W.Write.contents in
    let ran = c.put_strings-ran in
    all_written (left c.args.reader.now) (left c.read_all.new.reader) (held c.args.writer.now)
    (held c.write_out.new.writer) c.in_ok-input.input.items c.in_ok-input.ensures.input c.new-output.result
    ran.new.output c.new-output.ensures.empty (c.in_ok-check.ensures.0 refl) ran.result
    (subst (λ lines. QuotesInto lines c.new-output.result ran.new.output ran.result)
    (c.taken-lines.ensures ∙ ap taken c.as_slice.ensures.value) ran.ensures)
    c.in_ok-write_out.ensures.written
