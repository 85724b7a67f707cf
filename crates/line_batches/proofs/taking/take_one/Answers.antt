use Rattle.std.proofs.Common.{refl, inl, subst, Some}
use Rattle.line_batches.specs.Intake.{FeedIntake}
use Rattle.line_batches.specs.Batches.{TakesGiven}
use Rattle.line_batches.proofs.taking.take_one.Goals as goal

pub returns-in-Ok-Some : goal.returns-in-Ok-Some
returns-in-Ok-Some g c =
    let f = g.F.Feed in
    let took = c.take_line.new in
    let x : FeedIntake g.row.F.Denot = record {
      feed = c.args.feed.now;
      lines = c.args.tally.now.lines;
      refused = c.args.tally.now.refused;
      said = c.args.errors.now;
    } in
    let y : FeedIntake g.row.F.Denot = record {
      feed = took.feed;
      lines = took.tally.lines;
      refused = took.tally.refused;
      said = took.errors;
    } in
    let taken : TakesGiven f.remaining f.takes f.says f.passes c.args.reading.now.input x y (Some c.in-Ok-Some.given) =
    subst (λ o. TakesGiven f.remaining f.takes f.says f.passes c.args.reading.now.input x y o) c.in-Ok-Some.field-0-is
    c.in-Ok-Some.ensures.taken in
    let (line, one) = taken in
    inl (
      line,
      c.in-Ok-Some.given,
      y,
      one,
      c.put_given.ensures,
      refl,
    )
