use Rattle.std.proofs.Common.{◌≡◌, sym, ap, ◌∙◌}
use Rattle.std.specs.Prelude.{is_some}
use Rattle.device_serving.specs.Logging.{Log}
use Rattle.device_jobs.specs.OverTcp.{log_of}
use Rattle.device_jobs.proofs.over_tcp.serve_told.Goals as goal

pub returns-clause-serves : goal.returns-clause-serves
returns-clause-serves g c =
    let run = c.run_device_from-status in
    let held = g.W.Write.contents c.args.writer.now in
    let given = ap (λ (l : Log). l.loan) c.new-log.ensures in
    let back = c.writer-1.given.1 (sym given ∙ sym run.ensures.loan ∙ sym c.finish-writer.ensures.same) in
    let start : c.new-log.result ≡ log_of c.args.job.now c.new-log.result.loan held =
    c.new-log.ensures
    ∙ ap (λ loan. record (log_of c.args.job.now loan held) { timed = is_some c.args.clock }) (sym given)
    ∙ ap (λ timed. record (log_of c.args.job.now c.new-log.result.loan held) { timed = timed }) c.requires in (
      c.new-log.result.loan,
      run.new.log,
      rw start at run.ensures.serves,
      sym c.finish-writer.ensures.held ∙ sym (ap g.W.Write.contents back),
    )
