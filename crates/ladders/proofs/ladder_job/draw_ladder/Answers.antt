use Rattle.std.proofs.Common.{inr}
use Rattle.ladders.proofs.Doing.{drew}
use Rattle.ladders.proofs.ladder_job.draw_ladder.Goals as goal

pub returns-in-Ok-clause-does : goal.returns-in-Ok-clause-does
returns-in-Ok-clause-does g c =
    let left = g.R.Read.remaining in
    let held = g.W.Write.contents in
    let d = c.in-Ok in
    let now = c.run in
    inr (drew c.args.job.now d.drawing (left c.args.reader.now) (left now.new.reader) (held c.args.writer.now)
    (held now.new.writer) now.result d.ensures.made d.ensures.form now.ensures)
