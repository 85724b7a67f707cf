use Rattle.std.proofs.Common.{rules, ◌≡◌, [], ◌∷◌, Ok, Err, codes, sym, subst}
use Rattle.serde_json.specs.Data.{string}
use Rattle.uecp_encoder.specs.declared.serving.ServeFault.TheVariants.{ReadFailed, WriteFailed, TurnsSpent}
use Rattle.uecp_text.specs.Written.{Adds}
use Rattle.uecp_text.proofs.Public.{adds_then}
use Rattle.uecp_encoder.specs.declared.serving.KeptFault.TheVariants.{Serve, StateFailed}
use Rattle.uecp_encoder.specs.ServingWith.{Ended}
use Rattle.json_lines.specs.Objects.{in_decimal}
use Rattle.json_lines.specs.Texts.{field_text, fields_text}
use Rattle.json_lines.proofs.Public.{adds_field}
use Rattle.device_serving.specs.ConnectionLines.{ended_fields}
use Rattle.device_serving.proofs.connection_lines.put_fields.Goals as goal

pub returns-in-Ok : goal.returns-in-Ok
returns-in-Ok c =
    let i = c.in-Ok in
    let first = c.word_field.new.output in
    let end = c.number_field.new.output in
    let ended : Ended = Ok i.served in
    let is : c.args.ended ≡ ended = i.is in
    subst (λ ended. Adds c.args.output.now end (fields_text (ended_fields ended))) (sym is)
    (adds_then c.args.output.now first end (field_text (codes "end") (string (codes "closed")))
    (fields_text ((codes "replies", in_decimal i.served.replies) ∷ [])) c.word_field.ensures
    (adds_field first end (codes "replies") (in_decimal i.served.replies) c.number_field.ensures))

pub returns-in-Err-Serve-ReadFailed : goal.returns-in-Err-Serve-ReadFailed
returns-in-Err-Serve-ReadFailed c =
    let ended : Ended = Err (Serve ReadFailed) in
    let is : c.args.ended ≡ ended = search rules in
    let end = c.word_field-in-Err-Serve-ReadFailed.new.output in
    subst (λ ended. Adds c.args.output.now end (fields_text (ended_fields ended))) (sym is)
    (adds_field c.args.output.now end (codes "end") (string (codes "read_failed"))
    c.word_field-in-Err-Serve-ReadFailed.ensures)

pub returns-in-Err-Serve-WriteFailed : goal.returns-in-Err-Serve-WriteFailed
returns-in-Err-Serve-WriteFailed c =
    let i = c.in-Err-Serve-WriteFailed in
    let first = c.word_field-in-Err-Serve-WriteFailed in
    let second = c.number_field-in-Err-Serve-WriteFailed in
    let ended : Ended = Err (Serve (WriteFailed i.written)) in
    let is : c.args.ended ≡ ended = search rules in
    subst (λ ended. Adds c.args.output.now second.new.output (fields_text (ended_fields ended))) (sym is)
    (adds_then c.args.output.now first.new.output second.new.output
    (field_text (codes "end") (string (codes "write_failed")))
    (fields_text ((codes "written", in_decimal i.written) ∷ [])) first.ensures
    (adds_field first.new.output second.new.output (codes "written") (in_decimal i.written) second.ensures))

pub returns-in-Err-Serve-TurnsSpent : goal.returns-in-Err-Serve-TurnsSpent
returns-in-Err-Serve-TurnsSpent c =
    let ended : Ended = Err (Serve TurnsSpent) in
    let is : c.args.ended ≡ ended = search rules in
    let end = c.word_field-in-Err-Serve-TurnsSpent.new.output in
    subst (λ ended. Adds c.args.output.now end (fields_text (ended_fields ended))) (sym is)
    (adds_field c.args.output.now end (codes "end") (string (codes "turns_spent"))
    c.word_field-in-Err-Serve-TurnsSpent.ensures)

pub returns-in-Err-StateFailed : goal.returns-in-Err-StateFailed
returns-in-Err-StateFailed c =
    let ended : Ended = Err StateFailed in
    let is : c.args.ended ≡ ended = search rules in
    let end = c.word_field-in-Err-StateFailed.new.output in
    subst (λ ended. Adds c.args.output.now end (fields_text (ended_fields ended))) (sym is)
    (adds_field c.args.output.now end (codes "end") (string (codes "state_failed"))
    c.word_field-in-Err-StateFailed.ensures)
