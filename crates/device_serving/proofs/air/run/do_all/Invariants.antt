use Rattle.device_serving.specs.AirRun.{GoesOnFor}
use Rattle.device_serving.proofs.air.run.do_all.Given as goal

-- so many moments went by, and the run goes on
abbrev pub invariant-loop-moment : goal.invariant-loop-moment
invariant-loop-moment g l =
    let k = g.K.Keep in
    let b = g.K.BatchLimits in
    let m = g.M.Moments in
    GoesOnFor b.TOGETHER_MAX b.READ_MAX k.leaves k.is_clean k.saves k.fails m.waits m.closes m.sends
    g.M.Input.Read.remaining g.M.Output.Write.contents l.turns l._moment (record {
      encoder = l.fn.encoder;
      keeper = l.fn.keeper;
      log = l.fn.log;
      moments = l.fn.moments;
      carousel = l.fn.carousel;
      line = l.fn.line;
      left = l.fn.left;
    }) (record {
      encoder = l.encoder;
      keeper = l.keeper;
      log = l.log;
      moments = l.moments;
      carousel = l.carousel;
      line = l.line;
      left = l.left;
    })
