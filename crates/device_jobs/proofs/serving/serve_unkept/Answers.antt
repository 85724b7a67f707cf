use Rattle.std.proofs.Common.{◌≡◌, subst}
use Rattle.rds_store.specs.Value.{Store}
use Rattle.uecp_encoder.specs.State.{EncoderState}
use Rattle.kept_jobs.specs.Stops.{Went}
use Rattle.device_serving.specs.DeviceRun.{RunsDevice}
use Rattle.device_jobs.specs.Serving.{EndsDevice}
use Rattle.device_jobs.proofs.Ending.{ends}
use Rattle.device_jobs.proofs.serving.serve_unkept.Goals as goal

pub returns-clause-serves : goal.returns-clause-serves
returns-clause-serves g c =
    let run = c.run_device in
    let ended = ends (λ (went : Went). RunsDevice 1 512 (λ k left. Unit {0}) (λ k. ⊥) (λ k left k'. k' ≡ k) (λ k left
    k'. ⊥) g.C.Connections.opens g.C.Connections.closes g.C.Input.Read.remaining g.C.Output.Write.contents
    c.args.limits.turns c.args.limits.connections c.args.limits.store (record {
      encoder = c.args.encoder.now;
      keeper = _;
      connect = c.args.connect.now;
      log = c.args.log.now;
    }) (record {
      encoder = run.new.encoder;
      keeper = run.new.keeper;
      connect = run.new.connect;
      log = run.new.log;
    }) went) c.args.errors.now run.new.errors run.result run.ensures.status run.ensures.done
    run.ensures.failed in (
      _,
      run.new.keeper,
      run.new.encoder,
      subst (λ (e : EncoderState Store). EndsDevice 1 512 (λ k left. Unit {0}) (λ k. ⊥) (λ k left k'. k' ≡ k)
          (λ k left k'. ⊥) g.C.Connections.opens g.C.Connections.closes g.C.Input.Read.remaining
          g.C.Output.Write.contents c.args.limits.turns c.args.limits.connections c.args.limits.store
          (record { encoder = e; keeper = _; connect = c.args.connect.now; log = c.args.log.now })
          (record {
            encoder = run.new.encoder;
            keeper = run.new.keeper;
            connect = run.new.connect;
            log = run.new.log;
          }) c.args.errors.now run.new.errors run.result) c.requires
          ended,
    )
