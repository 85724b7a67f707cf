use Rattle.device_serving.proofs.Serving.{GoesOn}
use Rattle.device_serving.proofs.run.serve_connections.Given as goal

-- however it goes on from here, so it went from the start
abbrev pub invariant-loop-before : goal.invariant-loop-before
invariant-loop-before g l =
    let k = g.K.Keep in
    let m = g.K.BatchLimits in
    GoesOn m.TOGETHER_MAX m.READ_MAX g.T.Target.step k.leaves k.is_clean k.saves k.fails g.C.Connections.opens
    g.C.Connections.closes g.C.Input.Read.remaining g.C.Output.Write.contents l.fn.turns l.fn.connections (record {
      encoder = l.fn.encoder;
      keeper = l.fn.keeper;
      connect = l.fn.connect;
      log = l.fn.log;
    }) l._before (record {
      encoder = l.encoder;
      keeper = l.keeper;
      connect = l.connect;
      log = l.log;
    })
