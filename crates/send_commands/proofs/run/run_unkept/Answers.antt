use Rattle.std.proofs.Common.{◌≡◌, false, subst}
use Rattle.uecp_link.specs.Server.{ServerState}
use Rattle.sending.specs.Run.{Lives}
use Rattle.send_commands.proofs.run.run_unkept.Goals as goal

pub returns-clause-sends : goal.returns-clause-sends
returns-clause-sends g c =
    let run = c.run_live in (
      _,
      run.new.keeper,
      subst (λ (s : ServerState). Lives g.F.Feed.remaining g.F.Feed.takes g.F.Feed.says g.F.Feed.passes
          g.C.Connections.opens
          g.C.Connections.closes g.C.Input.Read.remaining
          g.C.Output.Write.contents (λ k left. Unit {0}) (λ k. ⊥) (λ k left k'. k' ≡ k) (λ k left k'. ⊥)
          c.args.options.now c.args.connect.now run.new.connect (record {
            runs = s;
            keeper = _;
            progress = record { taken = 0; joined = false };
            held = c.args.teller.now.held;
          }) run.new.keeper run.new.teller.held c.args.feed.now
          run.new.feed c.args.errors.now
          run.new.errors run.result) c.new.ensures run.ensures.runs,
    )
