use Rattle.std.proofs.Common.{◌≡◌, ℕ, subst}
use Rattle.rds_store.specs.Value.{Store}
use Rattle.carousel.specs.Carousel.{Carousel}
use Rattle.uecp_encoder.specs.State.{EncoderState}
use Rattle.kept_jobs.specs.Stops.{Went}
use Rattle.device_serving.specs.AirRun.{RunsOnAir}
use Rattle.device_jobs.specs.AirServing.{standing, EndsOnAir}
use Rattle.device_jobs.proofs.AirEnding.{ends}
use Rattle.device_jobs.proofs.air.serving.air_unkept.Goals as goal

pub returns : goal.returns
returns g c =
    let run = c.run_on_air in
    let m = g.M.Moments in
    let ended = ends (λ (start : Carousel) (left : ℕ) (went : Went). RunsOnAir 1 512 (λ k left. Unit {0}) (λ k. ⊥)
    (λ k left k'. k' ≡ k) (λ k left k'. ⊥) m.waits m.closes m.sends g.M.Input.Read.remaining
    g.M.Output.Write.contents c.args.limits.turns c.args.limits.store (standing c.args.encoder.now _ c.args.log.now
    c.args.moments.now start c.args.limits.connections) (standing run.new.encoder run.new.keeper run.new.log
    run.new.moments run.new.carousel left) went) c.tell_no_pi.new.errors run.new.errors run.result
    c.restarted-carousel.result c.restarted-carousel.ensures run.ensures.status run.ensures.done run.ensures.failed in (
      _,
      run.new.keeper,
      run.new.encoder,
      subst (λ (e : EncoderState Store). EndsOnAir 1 512 (λ k left. Unit {0}) (λ k. ⊥) (λ k left k'. k' ≡ k)
          (λ k left k'. ⊥) m.waits m.closes m.sends g.M.Input.Read.remaining g.M.Output.Write.contents
          c.args.limits.turns c.args.limits.connections c.args.limits.store e run.new.encoder _ run.new.keeper
          c.args.moments.now run.new.moments c.args.log.now run.new.log c.args.errors.now
          run.new.errors run.result) c.requires (
            run.new.carousel,
            ended.0,
            c.tell_no_pi.new.errors,
            rw c.target.ensures at c.tell_no_pi.ensures,
            ended.1,
          ),
    )
