use Rattle.std.proofs.Common.{rules, arith, ◌≡◌, Err, sym, subst}
use Rattle.device_serving.specs.DeviceRun.{ServesFrom}
use Rattle.device_serving.proofs.Serving.{begins, one_more, stops, ends}
use Rattle.device_serving.proofs.run.serve_connections.Goals as goal

pub loop-before-init : goal.loop-before-init
loop-before-init g c =
    let k = g.K.Keep in
    let m = g.K.BatchLimits in
    begins m.TOGETHER_MAX m.READ_MAX g.T.Target.step k.leaves k.is_clean k.saves k.fails g.C.Connections.opens
    g.C.Connections.closes g.C.Input.Read.remaining g.C.Output.Write.contents c.args.turns c.args.connections _

pub loop-before-preserved : goal.loop-before-preserved
loop-before-preserved g c =
    let k = g.K.Keep in
    let m = g.K.BatchLimits in
    one_more m.TOGETHER_MAX m.READ_MAX g.T.Target.step k.leaves k.is_clean k.saves k.fails g.C.Connections.opens
    g.C.Connections.closes g.C.Input.Read.remaining g.C.Output.Write.contents c.args.turns c.args.connections _
    c.loop-before._before _ (omega (arith, c.loop-before-test.true)) c.loop-before.invariant _
    c.in_ok-serve_next.ensures.serves

pub returns-in_err-serve_next : goal.returns-in_err-serve_next
returns-in_err-serve_next g c =
    let k = g.K.Keep in
    let m = g.K.BatchLimits in
    let stop = c.in_err-serve_next.field-0.0 in
    let now = c.serve_next.new in
    let same : c.from_residual.result ≡ Err stop = search rules in
    record {
      serves = subst (λ end. ServesFrom m.TOGETHER_MAX m.READ_MAX g.T.Target.step k.leaves k.is_clean k.saves k.fails
          g.C.Connections.opens g.C.Connections.closes
          g.C.Input.Read.remaining g.C.Output.Write.contents c.args.turns c.args.connections (record {
            encoder = c.args.encoder.now;
            keeper = c.args.keeper.now;
            connect = c.args.connect.now;
            log = c.args.log.now;
          }) (record {
            encoder = now.encoder;
            keeper = now.keeper;
            connect = now.connect;
            log = now.log;
          }) end) (sym same)
          (stops m.TOGETHER_MAX m.READ_MAX g.T.Target.step k.leaves k.is_clean k.saves k.fails g.C.Connections.opens
          g.C.Connections.closes g.C.Input.Read.remaining g.C.Output.Write.contents c.args.turns c.args.connections _
          c.loop-before._before _ (omega (arith, c.loop-before-test.true)) c.loop-before.invariant _ stop
          c.in_err-serve_next.ensures.serves);
    }

pub returns : goal.returns
returns g c =
    let k = g.K.Keep in
    let m = g.K.BatchLimits in
    record {
      serves = ends m.TOGETHER_MAX m.READ_MAX g.T.Target.step k.leaves k.is_clean k.saves k.fails g.C.Connections.opens
          g.C.Connections.closes g.C.Input.Read.remaining g.C.Output.Write.contents c.args.turns c.args.connections _
          c.loop-before._before _ (omega (arith, c.loop-before-test.false)) c.loop-before.invariant;
    }
