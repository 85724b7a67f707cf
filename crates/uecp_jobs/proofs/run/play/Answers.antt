use Rattle.std.proofs.Common.{inr}
use Rattle.uecp_jobs.specs.Setups.{options_of}
use Rattle.uecp_jobs.proofs.Doing.{played}
use Rattle.uecp_jobs.proofs.run.play.Goals as goal

pub returns-clause-plays : goal.returns-clause-plays
returns-clause-plays g c =
    let a = c.in_ok-playing in
    inr (played (options_of c.args.setup.now) c.args.asked a.playing (g.R.Read.remaining c.args.reader.now)
    (g.R.Read.remaining c.run.new.reader) (g.W.Write.contents c.args.writer.now)
    (g.W.Write.contents c.run.new.writer) c.run.result a.ensures.made c.run.ensures)
