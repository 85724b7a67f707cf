use Rattle.std.proofs.Common.{◌≡◌, sym, ap, ◌∙◌}
use Rattle.uecp_jobs.proofs.EncoderRun.{encoder_not_one, encoder_undescribed, encoder_failed, few_statuses}
use Rattle.uecp_jobs.proofs.encoder_run.run_encoder_over.Goals as goal

pub returns-in-Err-clause-status : goal.returns-in-Err-clause-status
returns-in-Err-clause-status g c =
    let held = g.W.Write.contents in
    let says = g.E.Notices.says c.args.errors.now c.fail.new.errors in
    let now = c.serve_all.new in
    let fault = c.in-Err.fault in (
      few_statuses fault c.fail.result c.fail.ensures.status,
      λ one. encoder_not_one g.C.Connections.opens g.C.Connections.closes g.C.Input.Read.remaining
          g.C.Output.Write.contents
          c.args.job.now c.requires c.args.connect.now now.connect (held c.args.writer.now) (held now.writer)
          says
          (◌≡◌ {A = g.row.W.Denot} now.writer c.args.writer.now)
          (◌≡◌ {A = g.row.C.Denot} now.connect c.args.connect.now) fault c.in-Err.ensures
          (sym c.fail.ensures.status ∙ one),
    )

pub returns-in-Err-clause-undescribed : goal.returns-in-Err-clause-undescribed
returns-in-Err-clause-undescribed g c = λ two.
    let held = g.W.Write.contents in
    let says = g.E.Notices.says c.args.errors.now c.fail.new.errors in
    let now = c.serve_all.new in
    let fault = c.in-Err.fault in
    let by = encoder_undescribed g.C.Connections.opens g.C.Connections.closes g.C.Input.Read.remaining
    g.C.Output.Write.contents
    c.args.job.now c.requires c.args.connect.now now.connect (held c.args.writer.now) (held now.writer)
    says
    (◌≡◌ {A = g.row.W.Denot} now.writer c.args.writer.now) (◌≡◌ {A = g.row.C.Denot} now.connect c.args.connect.now)
    fault c.in-Err.ensures (sym c.fail.ensures.status ∙ two) in
    ((fault, by.0, c.fail.ensures.said), by.1, by.2)

pub returns-in-Err-clause-failed : goal.returns-in-Err-clause-failed
returns-in-Err-clause-failed g c = λ three.
    let held = g.W.Write.contents in
    let says = g.E.Notices.says c.args.errors.now c.fail.new.errors in
    let now = c.serve_all.new in
    let fault = c.in-Err.fault in
    encoder_failed g.C.Connections.opens g.C.Connections.closes g.C.Input.Read.remaining g.C.Output.Write.contents
    c.args.job.now c.requires c.args.connect.now now.connect (held c.args.writer.now) (held now.writer)
    says
    (◌≡◌ {A = g.row.W.Denot} now.writer c.args.writer.now) (◌≡◌ {A = g.row.C.Denot} now.connect c.args.connect.now)
    fault c.in-Err.ensures (λ same. same) (ap held) c.fail.ensures.said (sym c.fail.ensures.status ∙ three)
