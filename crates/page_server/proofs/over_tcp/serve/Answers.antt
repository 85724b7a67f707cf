use Rattle.page_server.proofs.Reading.{status_tells}
use Rattle.page_server.proofs.over_tcp.serve.Goals as goal

pub returns-in-Ok-clause-ended : goal.returns-in-Ok-clause-ended
returns-in-Ok-clause-ended g c =
    status_tells (g.R.Read.remaining c.args.reader.now) (g.R.Read.remaining c.serve-served.new.reader) _
    c.in-Ok.serving.intake c.serve-served.new.self.intake c.serve-served.result c.end.result c.in-Ok.ensures.begins
    c.serve-served.ensures.all c.serve-served.ensures.refused c.end.ensures.ok c.end.ensures.err
