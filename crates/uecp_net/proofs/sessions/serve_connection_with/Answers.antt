use Rattle.std.proofs.Common.{rules}
use Rattle.uecp_net.proofs.Served.{session_told, settled_lost}
use Rattle.uecp_net.proofs.sessions.serve_connection_with.Goals as goal

pub returns-clause-served : goal.returns-clause-served
returns-clause-served g c =
    let i = c.in_ok-input in
    let s = c.serve_with-ended in
    let k = g.K.Keep in
    let m = g.K.BatchLimits in (
      i.input,
      s.new.reader,
      i.output,
      s.new.writer,
      c.open.new.self,
      search rules,
      session_told m.TOGETHER_MAX m.READ_MAX g.T.Target.step k.leaves k.is_clean k.saves k.fails g.L.Listener.begins
          g.L.Listener.hears g.C.Input.Read.remaining g.C.Output.Write.contents
          c.args.turns
          c.args.encoder.now c.line_lost.new.self s.new.encoder c.args.keeper.now s.new.keeper c.args.listener.now
          c.begin.new.self s.new.listener
          i.input
          c.new-input.result s.new.reader i.output c.new-output.result s.new.writer s.result c.ranges.turns.fits
          c.new-input.ensures.device c.new-input.ensures.calls c.new-input.ensures.failures c.new-input.ensures.empty
          c.new-output.ensures.device c.new-output.ensures.failures (search rules) s.ensures.bytes c.begin.ensures
          s.ensures.read_failures s.ensures.empty_reads s.ensures.write_failures,
      search rules,
    )

pub returns-clause-settled : goal.returns-clause-settled
returns-clause-settled g c = λ start clean. c.serve_with-ended.ensures.settled
    (settled_lost (g.K.Keep.leaves c.args.keeper.now) c.args.encoder.now c.line_lost.new.self (search rules)
    start) clean
