use Rattle.std.proofs.Common.{ℕ, inl}
use Rattle.carousel.specs.Carousel.{Carousel}
use Rattle.kept_jobs.specs.Stops.{Went}
use Rattle.device_serving.specs.AirRun.{RunsOnAir}
use Rattle.device_jobs.specs.AirServing.{standing}
use Rattle.device_jobs.proofs.AirEnding.{ends}
use Rattle.device_jobs.proofs.air.serving.air_in.Goals as goal

pub returns-in-Ok : goal.returns-in-Ok
returns-in-Ok g c =
    let run = c.run_on_air-status in
    let k = g.S.EncoderKeeper.Keep in
    let b = g.S.EncoderKeeper.BatchLimits in
    let m = g.M.Moments in
    let ended = ends (λ (start : Carousel) (left : ℕ) (went : Went). RunsOnAir b.TOGETHER_MAX b.READ_MAX k.leaves
    k.is_clean k.saves k.fails m.waits m.closes m.sends g.M.Input.Read.remaining g.M.Output.Write.contents
    c.args.limits.turns c.args.limits.store (standing c.in-Ok.encoder c.in-Ok.keeper c.args.log.now c.args.moments.now
    start c.args.limits.connections) (standing run.new.encoder run.new.keeper run.new.log run.new.moments
    run.new.carousel left) went) c.tell_no_pi.new.errors run.new.errors run.result
    c.restarted-carousel.result
    c.restarted-carousel.ensures run.ensures.status run.ensures.done run.ensures.failed in
    inl (record {
      encoder = c.in-Ok.encoder;
      keeper = c.in-Ok.keeper;
      after = run.new.encoder;
      keeper_after = run.new.keeper;
      status = run.result;
      between = run.new.errors;
      closed = c.close_encoder.result;
      is_opened = record {
        given = c.in-Ok.ensures.given;
        described = c.in-Ok.ensures.described;
        settled = c.in-Ok.ensures.settled;
      };
      runs = (
        run.new.carousel,
        ended.0,
        c.tell_no_pi.new.errors,
        rw c.target.ensures at c.tell_no_pi.ensures,
        ended.1,
      );
      settled = λ zero clean. run.ensures.settled zero (c.in-Ok.ensures.settled (run.ensures.clean clean)) clean;
      outlives = λ clean kept leaves_it.
          let out = run.ensures.outlives (c.in-Ok.ensures.settled (run.ensures.clean clean)) clean kept leaves_it in
          (run.new.carousel, out.0, out.1);
      clean = run.ensures.clean;
      closes_so = c.close_encoder.ensures;
      is_closed = c.closed_so.ensures.closed;
    })
