use Rattle.std.proofs.Common.{refl, inl}
use Rattle.sending.specs.Run.{live}
use Rattle.sending.proofs.run.go_on.Goals as goal

pub returns-clause-runs : goal.returns-clause-runs
returns-clause-runs g c =
    let settled = c.settle_first.new in
    inl (
      live settled.sender settled.keeper (g.S.Source.at c.args.source.now) settled.teller settled.course,
      (c.in_ok-settle_first.ensures.settles, refl, c.in_ok-settle_first.ensures.behind),
      c.run_turns.ensures.runs,
    )
