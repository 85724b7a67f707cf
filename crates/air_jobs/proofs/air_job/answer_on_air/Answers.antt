use Rattle.std.proofs.Common.{inr}
use Rattle.air_jobs.proofs.Doing.{answered}
use Rattle.air_jobs.proofs.air_job.answer_on_air.Goals as goal

pub returns-clause-does : goal.returns-clause-does
returns-clause-does g c =
    let left = g.R.Read.remaining in
    let held = g.W.Write.contents in
    let a = c.in_ok-answering in
    let now = c.run in
    inr (answered c.args.job.now a.answering (left c.args.reader.now) (left now.new.reader) (held c.args.writer.now)
    (held now.new.writer) now.result a.ensures.made a.ensures.asked now.ensures)
