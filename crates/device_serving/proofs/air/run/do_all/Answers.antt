use Rattle.std.proofs.Common.{rules, arith, ◌<◌, ◌≡◌, Err, sym, subst}
use Rattle.device_serving.specs.AirRun.{DoesAll}
use Rattle.device_serving.proofs.AirChain.{one_more, done, stops, gives_up}
use Rattle.device_serving.proofs.air.run.do_all.Goals as goal

pub loop-moment-preserved : goal.loop-moment-preserved
loop-moment-preserved g c =
    let k = g.K.Keep in
    let b = g.K.BatchLimits in
    let m = g.M.Moments in
    let some : 0 < c.loop-moment.left = search rules in
    one_more b.TOGETHER_MAX b.READ_MAX k.leaves k.is_clean k.saves k.fails m.waits m.closes m.sends
    g.M.Input.Read.remaining g.M.Output.Write.contents c.args.turns _ c.loop-moment._moment _ c.loop-moment.invariant
    some _ c.in_ok-do_next.ensures.next

pub returns-then-left-eq0 : goal.returns-then-left-eq0
returns-then-left-eq0 g c =
    let k = g.K.Keep in
    let b = g.K.BatchLimits in
    let m = g.M.Moments in
    let none : c.loop-moment.left ≡ 0 = search rules in
    record {
      all = done b.TOGETHER_MAX b.READ_MAX k.leaves k.is_clean k.saves k.fails m.waits m.closes m.sends
          g.M.Input.Read.remaining g.M.Output.Write.contents c.args.turns _ c.loop-moment._moment _
          c.loop-moment.invariant none;
    }

pub returns-in_err-do_next : goal.returns-in_err-do_next
returns-in_err-do_next g c =
    let k = g.K.Keep in
    let b = g.K.BatchLimits in
    let m = g.M.Moments in
    let stop = c.in_err-do_next.field-0.0 in
    let now = c.do_next.new in
    let some : 0 < c.loop-moment.left = search rules in
    let same : c.from_residual.result ≡ Err stop = search rules in
    record {
      all = subst (λ end. DoesAll b.TOGETHER_MAX b.READ_MAX k.leaves k.is_clean k.saves k.fails m.waits m.closes m.sends
          g.M.Input.Read.remaining g.M.Output.Write.contents c.args.turns (record {
            encoder = c.args.encoder.now;
            keeper = c.args.keeper.now;
            log = c.args.log.now;
            moments = c.args.moments.now;
            carousel = c.args.carousel.now;
            line = c.args.line.now;
            left = c.args.left.now;
          }) (record {
            encoder = now.encoder;
            keeper = now.keeper;
            log = now.log;
            moments = now.moments;
            carousel = now.carousel;
            line = now.line;
            left = now.left;
          }) end) (sym same)
          (stops b.TOGETHER_MAX b.READ_MAX k.leaves k.is_clean k.saves k.fails m.waits m.closes m.sends
          g.M.Input.Read.remaining g.M.Output.Write.contents c.args.turns _ c.loop-moment._moment _
          c.loop-moment.invariant some _ stop c.in_err-do_next.ensures.next);
    }

pub returns : goal.returns
returns g c =
    let k = g.K.Keep in
    let b = g.K.BatchLimits in
    let m = g.M.Moments in
    record {
      all = gives_up b.TOGETHER_MAX b.READ_MAX k.leaves k.is_clean k.saves k.fails m.waits m.closes m.sends
          g.M.Input.Read.remaining g.M.Output.Write.contents c.args.turns _ c.loop-moment._moment _
          c.loop-moment.invariant (omega (arith, c.loop-moment-test.false));
    }
