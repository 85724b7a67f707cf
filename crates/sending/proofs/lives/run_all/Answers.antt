use Rattle.std.proofs.Common.{rules}
use Rattle.sending.specs.Run.{live}
use Rattle.sending.proofs.Again.{one_more, same_again}
use Rattle.sending.proofs.lives.run_all.Goals as goal

pub loop-again-preserved : goal.loop-again-preserved
loop-again-preserved g c =
    let k = g.K.Keep in
    let (last, so) = c.loop-again.invariant.so in
    let go = c.if-not-goes_on.ensures.so (search rules) in
    let (now, again) = c.run_again-ran.ensures.runs last in
    record {
      so = (
        now,
        one_more (g.S.Source.takes (g.S.Source.how c.args.source.now)) g.C.Connections.opens
            g.C.Connections.closes
            g.C.Input.Read.remaining g.C.Output.Write.contents
            k.leaves
            k.is_clean k.saves k.fails c.args.options.now c.loop-again._again c.args.due _ _ _ _ _ _ _ _ so go.0 go.1
            c.address-address.result c.address-address.ensures
            (same_again g.S.Source.takes g.C.Connections.opens g.C.Connections.closes g.C.Input.Read.remaining
            g.C.Output.Write.contents k.leaves k.is_clean k.saves k.fails c.args.options.now _ _
            c.loop-again.invariant.how c.address-address.result c.loop-again.connect c.run_again-ran.new.connect
            (live last c.loop-again.keeper (g.S.Source.at c.loop-again.source) c.loop-again.teller c.loop-again.course)
            (live now c.run_again-ran.new.keeper (g.S.Source.at c.run_again-ran.new.source) c.run_again-ran.new.teller
            c.run_again-ran.new.course) c.run_again-ran.result again),
      );
      how = search rules;
      lent = search rules;
      writer = search rules;
    }
