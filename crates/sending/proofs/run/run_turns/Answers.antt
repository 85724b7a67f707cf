use Rattle.std.proofs.Common.{rules, arith}
use Rattle.sending.proofs.Turning.{one_more, ends, stops, gives_up, same_turn}
use Rattle.sending.proofs.run.run_turns.Goals as goal

pub returns-in-Err-clause-runs : goal.returns-in-Err-clause-runs
returns-in-Err-clause-runs g c =
    let k = g.K.Keep in
    let o = c.args.options.now in
    let turn = c.in-Err.ensures.stopped in
    stops (g.S.Source.takes (g.S.Source.how c.args.source.now) o.size) g.C.Connections.opens
    g.C.Connections.closes g.C.Input.Read.remaining g.C.Output.Write.contents k.leaves
    k.is_clean
    k.saves k.fails o.account _
    c.loop-turn._turn _
    c.loop-turn.invariant.on _ turn.0 c.in-Err.stop (same_turn (λ h. g.S.Source.takes h o.size) g.C.Connections.opens
    g.C.Connections.closes
    g.C.Input.Read.remaining g.C.Output.Write.contents k.leaves k.is_clean k.saves k.fails o.account _ _
    c.loop-turn.invariant.how _ _ _ _ turn.1)

pub returns-in-Ok-Ends-clause-runs : goal.returns-in-Ok-Ends-clause-runs
returns-in-Ok-Ends-clause-runs g c =
    let k = g.K.Keep in
    let o = c.args.options.now in
    ends (g.S.Source.takes (g.S.Source.how c.args.source.now) o.size) g.C.Connections.opens
    g.C.Connections.closes g.C.Input.Read.remaining g.C.Output.Write.contents k.leaves
    k.is_clean
    k.saves k.fails o.account _
    c.loop-turn._turn _
    c.loop-turn.invariant.on _ c.in-Ok-Ends.ended (same_turn (λ h. g.S.Source.takes h o.size) g.C.Connections.opens
    g.C.Connections.closes
    g.C.Input.Read.remaining g.C.Output.Write.contents k.leaves k.is_clean k.saves k.fails o.account _ _
    c.loop-turn.invariant.how _ _ _ _ (search rules)) _ c.ended_as.ensures

pub loop-turn-preserved : goal.loop-turn-preserved
loop-turn-preserved g c =
    let k = g.K.Keep in
    let o = c.args.options.now in
    let before = c.loop-turn.invariant.countable in
    let taken = c.make_turn.ensures.taken in
    record {
      idle = c.in-Ok-GoesOn.ensures.idle;
      loan = search rules;
      how = search rules;
      lent = search rules;
      writer = search rules;
      countable = omega (arith, before, taken);
      on = one_more (g.S.Source.takes (g.S.Source.how c.args.source.now) o.size)
          g.C.Connections.opens
          g.C.Connections.closes g.C.Input.Read.remaining g.C.Output.Write.contents
          k.leaves
          k.is_clean k.saves k.fails o.account _
          c.loop-turn._turn _ c.loop-turn.invariant.on _ (same_turn (λ h. g.S.Source.takes h o.size)
          g.C.Connections.opens g.C.Connections.closes
          g.C.Input.Read.remaining g.C.Output.Write.contents k.leaves k.is_clean k.saves k.fails o.account _ _
          c.loop-turn.invariant.how _ _ _ _ (search rules));
    }

pub returns-clause-runs : goal.returns-clause-runs
returns-clause-runs g c =
    let k = g.K.Keep in
    let o = c.args.options.now in
    let most = c.loop-turn.auto._turn-end in
    let least = c.loop-turn-test.false in
    gives_up (g.S.Source.takes (g.S.Source.how c.args.source.now) o.size) g.C.Connections.opens
    g.C.Connections.closes g.C.Input.Read.remaining g.C.Output.Write.contents k.leaves
    k.is_clean
    k.saves k.fails o.account _
    c.loop-turn._turn _
    c.loop-turn.invariant.on (omega (arith, most, least))
