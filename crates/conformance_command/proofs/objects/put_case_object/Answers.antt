use Rattle.std.proofs.Common.{codes, ◌++◌, subst}
use Rattle.uecp_text.specs.Written.{Adds}
use Rattle.json_lines.specs.Texts.{fields_text}
use Rattle.json_lines.proofs.Public.{adds_line, adds_more}
use Rattle.conformance_command.specs.Choosing.{is_kept}
use Rattle.conformance_command.specs.Telling.{case_fields, went_fields, note_fields}
use Rattle.conformance_command.proofs.objects.put_case_object.Goals as goal

pub returns : goal.returns
returns c =
    let about = case_fields c.args.number c.args.case.now (is_kept c.args.went) in
    let went = went_fields c.args.went in
    let notes = note_fields c.args.left c.args.noise in
    let put = subst (λ kept. Adds c.open_line.new.output c.put_case.new.output
    (fields_text (case_fields c.args.number c.args.case.now kept))) c.is_kept.ensures c.put_case.ensures in
    adds_line c.args.output.now c.open_line.new.output c.put_note.new.output c.close_line.new.output (codes "case")
    (about ++ (went ++ notes)) c.open_line.ensures
    (adds_more c.open_line.new.output c.put_case.new.output c.put_note.new.output about (went ++ notes) put
    (adds_more c.put_case.new.output c.put_went.new.output c.put_note.new.output went notes c.put_went.ensures
    c.put_note.ensures))
    c.close_line.ensures
