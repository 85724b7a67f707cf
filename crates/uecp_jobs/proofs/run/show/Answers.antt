use Rattle.uecp_jobs.proofs.Doing.{showed_in}
use Rattle.uecp_jobs.proofs.run.show.Goals as goal

pub returns : goal.returns
returns g c =
    showed_in c.args.form c.new.result (g.R.Read.remaining c.args.reader.now) (g.R.Read.remaining c.run.new.reader)
    (g.W.Write.contents c.args.writer.now) (g.W.Write.contents c.run.new.writer) c.run.result c.new.ensures
    c.run.ensures
