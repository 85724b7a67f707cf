use Rattle.std.proofs.Common.{rules, ◌≡◌, true, [], ◌∷◌, codes, sym, subst}
use Rattle.serde_json.specs.Data.{boolean}
use Rattle.uecp_text.specs.Written.{Adds}
use Rattle.uecp_text.proofs.Public.{adds_then}
use Rattle.json_lines.specs.Objects.{in_decimal}
use Rattle.json_lines.specs.Texts.{field_text, fields_text}
use Rattle.json_lines.proofs.Public.{adds_field}
use Rattle.conformance.specs.declared.verdict.Expected.TheVariants.{Refusal}
use Rattle.conformance_command.specs.Telling.{wanted_fields}
use Rattle.conformance_command.proofs.objects.put_wanted.Goals as goal

pub returns-in-Refusal : goal.returns-in-Refusal
returns-in-Refusal c =
    let is : c.args.reply ≡ Refusal c.in-Refusal.counter = search rules in
    subst (λ r. Adds c.args.output.now c.flag_field.new.output (fields_text (wanted_fields r))) (sym is)
    (adds_then c.args.output.now c.number_field-in-Refusal.new.output c.flag_field.new.output
    (field_text (codes "wanted_counter") (in_decimal c.in-Refusal.counter))
    (fields_text ((codes "wanted_refusal", boolean true) ∷ []))
    (subst (λ n. Adds c.args.output.now c.number_field-in-Refusal.new.output
    (field_text (codes "wanted_counter") (in_decimal n))) c.from-in-Refusal.ensures c.number_field-in-Refusal.ensures)
    (adds_field c.number_field-in-Refusal.new.output c.flag_field.new.output (codes "wanted_refusal") (boolean true)
    c.flag_field.ensures))
