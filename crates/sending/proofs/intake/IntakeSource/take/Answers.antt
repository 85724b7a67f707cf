use Rattle.std.proofs.Common.{subst}
use Rattle.sending.specs.Hands.{Taking}
use Rattle.sending.specs.Sources.{FromFeed}
use Rattle.sending.proofs.intake.IntakeSource.take.Goals as goal

pub returns-clause-takes : goal.returns-clause-takes
returns-clause-takes g c =
    let f = g.F.Feed in
    let new = c.take_batch.new in
    subst (λ (i : Taking g.row.F.Denot). FromFeed f.remaining f.takes f.says f.passes i.input i.strict c.args.size
    new.batch.items c.take_batch.result i.at (record {
      feed = new.feed;
      lines = new.tally.lines;
      refused = new.tally.refused;
      said = new.errors;
    })) c.self.view_is c.take_batch.ensures
