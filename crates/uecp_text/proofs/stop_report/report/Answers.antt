use Rattle.std.proofs.Common.{◌≡◌, ◌++◌, codes, OnOk, ap, ◌∙◌, sym, subst, append_assoc}
use Rattle.std.specs.Io.KnownBytes.{Appends}
use Rattle.rds_store.specs.Fault.{name_of}
use Rattle.uecp_text.specs.Faults.{error_lines}
use Rattle.uecp_text.proofs.stop_report.report.Goals as goal

pub returns-in-Services-clause-said : goal.returns-in-Services-clause-said
returns-in-Services-clause-said g c =
    let held = g.W.Write.contents in
    let wrote = c.write_parts-in-Services in
    let name = name_of c.in-Services.fault in
    let name_is : c.as_bytes-name.result.now ≡ name = c.as_bytes-name.ensures.value ∙ c.name.ensures in
    let said : error_lines c.args.fault.now ≡ codes "uecp: services: " ++ (c.as_bytes-name.result.now ++ codes "\n") =
    ap error_lines c.in-Services.is ∙ append_assoc (codes "uecp: services: ") name (codes "\n")
    ∙ ap (λ n. codes "uecp: services: " ++ (n ++ codes "\n")) (sym name_is) in
    subst (λ line. OnOk wrote.result (Appends (held c.args.writer.now) (held wrote.new.writer) line)) (sym said)
    wrote.ensures.written

pub returns-in-TooLong-clause-said : goal.returns-in-TooLong-clause-said
returns-in-TooLong-clause-said g c =
    let held = g.W.Write.contents in
    let wrote = c.write_parts-in-TooLong in
    let said : error_lines c.args.fault.now ≡ codes "uecp: input too long\n" = ap error_lines c.in-TooLong.is in
    subst (λ line. OnOk wrote.result (Appends (held c.args.writer.now) (held wrote.new.writer) line)) (sym said)
    wrote.ensures.written

pub returns-in-Reading-clause-said : goal.returns-in-Reading-clause-said
returns-in-Reading-clause-said g c =
    let held = g.W.Write.contents in
    let wrote = c.write_parts-in-Reading in
    let said : error_lines c.args.fault.now ≡ codes "uecp: reading failed\n" = ap error_lines c.in-Reading.is in
    subst (λ line. OnOk wrote.result (Appends (held c.args.writer.now) (held wrote.new.writer) line)) (sym said)
    wrote.ensures.written
