use Rattle.std.proofs.Common.{true, sym, ap, subst, ◌∙◌}
use Rattle.line_batches.specs.declared.taking.After.TheVariants.{GoesOn}
use Rattle.sending.specs.declared.options.RunOptions.{RunOptions}
use Rattle.sending.specs.Hands.{Taking}
use Rattle.sending.specs.Sources.{FromFeed}
use Rattle.sending.specs.Run.{LivesFrom, EndsAs, run_of}
use Rattle.sending.proofs.Lent.{first_of_two, second_of_two}
use Rattle.sending.proofs.run.run_live.Goals as goal

pub returns-clause-runs : goal.returns-clause-runs
returns-clause-runs g c =
    let k = g.K.Keep in
    let run = c.run_from-ran in
    let end = c.end-status in
    let back = c.finish-fed.ensures in
    let new = c.new-intake.ensures in
    let feed = c.feed-1.given.1
    (sym (ap (λ t. t.feed) new) ∙ sym (first_of_two run.new.source.feed run.new.source.errors c.new-intake.result.feed
    c.new-intake.result.errors
    run.ensures.lent) ∙ sym end.ensures.feed
    ∙ sym (ap (λ f. f.loan) back.feed) ∙ sym c.finish.ensures.same) in
    let errors = c.errors-1.given.1
    (sym (ap (λ t. t.errors) new) ∙ sym (second_of_two run.new.source.feed run.new.source.errors
    c.new-intake.result.feed c.new-intake.result.errors
    run.ensures.lent) ∙ sym end.ensures.errors
    ∙ sym (ap (λ e. e.loan) back.errors) ∙ sym c.finish-2.ensures.same) in (
      run.result,
      run.new.source.at,
      run.new.applied,
      subst (λ (i : Taking g.row.F.Denot). LivesFrom
          (FromFeed g.F.Feed.remaining g.F.Feed.takes g.F.Feed.says g.F.Feed.passes i.input i.strict)
          g.C.Connections.opens g.C.Connections.closes g.C.Input.Read.remaining
          g.C.Output.Write.contents k.leaves k.is_clean k.saves k.fails (run_of c.args.options.now) c.args.connect.now
          run.new.connect (record {
            sends = record {
              runs = c.args.start.server;
              keeper = c.args.keeper.now;
              progress = c.args.start.progress;
              held = c.args.teller.now.held;
            };
            takes = i.at;
            applied = true;
            unknown = 0;
            behind = GoesOn;
          }) run.new.keeper run.new.teller.held run.new.source.at run.new.applied run.result) new
          (subst (λ (o : RunOptions). LivesFrom
          (FromFeed g.F.Feed.remaining g.F.Feed.takes g.F.Feed.says g.F.Feed.passes c.new-intake.result.input
          c.new-intake.result.strict)
          g.C.Connections.opens g.C.Connections.closes g.C.Input.Read.remaining
          g.C.Output.Write.contents k.leaves k.is_clean k.saves k.fails o c.args.connect.now
          run.new.connect (record {
            sends = record {
              runs = c.args.start.server;
              keeper = c.args.keeper.now;
              progress = c.args.start.progress;
              held = c.args.teller.now.held;
            };
            takes = c.new-intake.result.at;
            applied = true;
            unknown = 0;
            behind = GoesOn;
          }) run.new.keeper run.new.teller.held run.new.source.at run.new.applied run.result) c.run_of.ensures
          run.ensures.lives),
      feed ∙ c.let_go.ensures.feed ∙ c.finish.ensures.stands ∙ ap (λ f. f.feed) back.feed ∙ end.ensures.stands,
      subst (λ said. EndsAs run.result run.new.applied run.new.source.at.refused run.new.source.at.said said end.result)
          (sym (errors ∙ c.let_go.ensures.errors ∙ c.finish-2.ensures.said ∙ ap (λ e. e.said) back.errors))
          end.ensures.ends,
    )
