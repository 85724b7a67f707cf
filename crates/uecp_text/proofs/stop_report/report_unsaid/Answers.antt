use Rattle.std.proofs.Common.{◌≡◌, ◌++◌, codes, decimal, OnOk, ℕ, List, sym, subst, ap, ◌∙◌}
use Rattle.std.specs.Option.{option_map}
use Rattle.std.specs.Io.KnownBytes.{Appends}
use Rattle.uecp_text.specs.Faults.{error_lines, named, question}
use Rattle.uecp_text.specs.declared.run_fault.RunFault.TheVariants.{Text}
use Rattle.uecp_text.specs.declared.text_fault.TextFault.TheVariants as flaw
use Rattle.uecp_text.specs.Written.{Begins}
use Rattle.uecp_text.proofs.Parts.{parts_are}
use Rattle.uecp_text.proofs.stop_report.report_unsaid.Goals as goal

pub returns-clause-said : goal.returns-clause-said
returns-clause-said g c =
    let held = g.W.Write.contents in
    let wrote = c.write_parts in
    let line = parts_are (codes "uecp: line ") c.as_bytes-line.result.now (codes ", column ")
    c.as_bytes-column.result.now
    (codes ": ") c.quoted.result.0.now c.quoted.result.1.now c.quoted.result.2.now c.as_bytes-what.result.now
    c.asked.result.0.now c.asked.result.1.now c.asked.result.2.now (codes "\n") (decimal c.args.number)
    (decimal c.args.unsaid.now.column) _ _ _ (c.as_bytes-line.ensures.value ∙ c.format.ensures.text)
    (c.as_bytes-column.ensures.value ∙ c.format-2.ensures.text) c.quoted.ensures c.as_bytes-what.ensures.value
    c.asked.ensures in
    subst (λ line. OnOk wrote.result (Appends (held c.args.writer.now) (held wrote.new.writer) line)) (sym line)
    wrote.ensures.written

pub returns-clause-begun : goal.returns-clause-begun
returns-clause-begun g c =
    let held = g.W.Write.contents in
    let wrote = c.write_parts in
    let line = parts_are (codes "uecp: line ") c.as_bytes-line.result.now (codes ", column ")
    c.as_bytes-column.result.now
    (codes ": ") c.quoted.result.0.now c.quoted.result.1.now c.quoted.result.2.now c.as_bytes-what.result.now
    c.asked.result.0.now c.asked.result.1.now c.asked.result.2.now (codes "\n") (decimal c.args.number)
    (decimal c.args.unsaid.now.column) _ _ _ (c.as_bytes-line.ensures.value ∙ c.format.ensures.text)
    (c.as_bytes-column.ensures.value ∙ c.format-2.ensures.text) c.quoted.ensures c.as_bytes-what.ensures.value
    c.asked.ensures in
    subst (Begins (held c.args.writer.now) (held wrote.new.writer)) (sym line) wrote.ensures.begun
