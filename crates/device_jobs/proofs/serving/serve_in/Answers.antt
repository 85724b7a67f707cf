use Rattle.std.proofs.Common.{◌≡◌, ◌∙◌, inl, subst}
use Rattle.std.specs.Prelude.{IfOk}
use Rattle.kept_jobs.specs.Stops.{Went}
use Rattle.device_serving.specs.DeviceRun.{RunsDevice}
use Rattle.state_jobs.proofs.Public.{closed_well}
use Rattle.device_jobs.proofs.Ending.{ends, status_after, not_three}
use Rattle.device_jobs.proofs.serving.serve_in.Goals as goal

pub returns-in-Ok-clause-serves : goal.returns-in-Ok-clause-serves
returns-in-Ok-clause-serves g c =
    let run = c.run_device-status in
    let k = g.S.EncoderKeeper.Keep in
    let m = g.S.EncoderKeeper.BatchLimits in
    let ended = ends (λ (went : Went). RunsDevice m.TOGETHER_MAX m.READ_MAX k.leaves k.is_clean k.saves k.fails
    g.C.Connections.opens g.C.Connections.closes g.C.Input.Read.remaining g.C.Output.Write.contents c.args.limits.turns
    c.args.limits.connections c.args.limits.store (record {
      encoder = c.in-Ok.encoder;
      keeper = c.in-Ok.keeper;
      connect = c.args.connect.now;
      log = c.args.log.now;
    }) (record {
      encoder = run.new.encoder;
      keeper = run.new.keeper;
      connect = run.new.connect;
      log = run.new.log;
    }) went) c.args.errors.now run.new.errors run.result run.ensures.status run.ensures.done
    run.ensures.failed in
    inl (record {
      encoder = c.in-Ok.encoder;
      keeper = c.in-Ok.keeper;
      after = run.new.encoder;
      keeper_after = run.new.keeper;
      status = run.result;
      between = run.new.errors;
      closed = c.close_encoder.result;
      is_opened = record {
        given = c.in-Ok.ensures.given;
        described = c.in-Ok.ensures.described;
        settled = c.in-Ok.ensures.settled;
      };
      runs = ended;
      settled = λ zero clean. run.ensures.settled zero (c.in-Ok.ensures.settled (run.ensures.clean clean)) clean;
      outlives = λ clean. run.ensures.outlives (c.in-Ok.ensures.settled (run.ensures.clean clean)) clean;
      clean = run.ensures.clean;
      closes_so = c.close_encoder.ensures;
      is_closed = c.closed_so.ensures.closed;
    })

pub returns-in-Ok-clause-status : goal.returns-in-Ok-clause-status
returns-in-Ok-clause-status g c =
    status_after _ _ _ _ _ _ c.run_device-status.ensures.status c.closed_so.ensures.closed

pub returns-in-Ok-clause-same : goal.returns-in-Ok-clause-same
returns-in-Ok-clause-same g c = λ zero.
    let run = c.run_device-status in
    let well = closed_well _ _ _ _ _ _ (not_three _ zero) c.closed_so.ensures.closed in
    let same : c.closed_so.new.errors ≡ run.new.errors =
    subst (λ x. IfOk x (λ done. c.closed_so.new.errors ≡ run.new.errors)) well.0 c.closed_so.ensures.same in
    same ∙ (run.ensures.done (well.1 ∙ zero)).1
