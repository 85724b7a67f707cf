use Rattle.std.proofs.Common.{rules, ◌≡◌, codes, sym, subst}
use Rattle.serde_json.specs.Data.{string}
use Rattle.uecp_text.specs.Written.{Adds}
use Rattle.uecp_text.proofs.Public.{adds_then}
use Rattle.json_lines.specs.Texts.{field_text, fields_text}
use Rattle.json_lines.proofs.Public.{adds_field}
use Rattle.conformance.specs.declared.verdict.Verdict.TheVariants.{TooMany, NoReply}
use Rattle.conformance_command.specs.Telling.{verdict_fields, came_fields}
use Rattle.conformance_command.proofs.objects.put_verdict.Goals as goal

pub returns-in-TooMany : goal.returns-in-TooMany
returns-in-TooMany c =
    let is : c.args.verdict ≡ TooMany c.in-TooMany.came = search rules in
    subst (λ v. Adds c.args.output.now c.put_came-in-TooMany.new.output (fields_text (verdict_fields v))) (sym is)
    (adds_then c.args.output.now c.word_field-in-TooMany.new.output c.put_came-in-TooMany.new.output
    (field_text (codes "verdict") (string (codes "too_many"))) (fields_text (came_fields c.in-TooMany.came))
    c.word_field-in-TooMany.ensures c.put_came-in-TooMany.ensures)

pub returns-in-NoReply : goal.returns-in-NoReply
returns-in-NoReply c =
    let is : c.args.verdict ≡ NoReply = search rules in
    subst (λ v. Adds c.args.output.now c.word_field-in-NoReply.new.output (fields_text (verdict_fields v))) (sym is)
    (adds_field c.args.output.now c.word_field-in-NoReply.new.output (codes "verdict") (string (codes "no_reply"))
    c.word_field-in-NoReply.ensures)
