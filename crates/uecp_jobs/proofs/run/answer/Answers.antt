use Rattle.std.proofs.Common.{inr}
use Rattle.uecp_jobs.specs.Setups.{options_of}
use Rattle.uecp_jobs.proofs.Doing.{answered}
use Rattle.uecp_jobs.proofs.run.answer.Goals as goal

pub returns-clause-answers : goal.returns-clause-answers
returns-clause-answers g c =
    let a = c.in_ok-answering in
    inr (answered (options_of c.args.setup.now) c.args.asked a.answering (g.R.Read.remaining c.args.reader.now)
    (g.R.Read.remaining c.run.new.reader) (g.W.Write.contents c.args.writer.now)
    (g.W.Write.contents c.run.new.writer) c.run.result a.ensures.made c.run.ensures)
