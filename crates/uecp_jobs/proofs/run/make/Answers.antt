use Rattle.std.proofs.Common.{sym, subst}
use Rattle.uecp_jobs.specs.Jobs.{RunsScript}
use Rattle.uecp_jobs.proofs.Doing.{made, made_of_words}
use Rattle.uecp_jobs.proofs.run.make.Goals as goal

pub returns-in-Some : goal.returns-in-Some
returns-in-Some g c =
    let left = g.R.Read.remaining in
    let held = g.W.Write.contents in
    let now = c.run in
    subst (λ words. RunsScript words (left c.args.reader.now) (left now.new.reader) (held c.args.writer.now)
    (held now.new.writer) now.result) (sym c.in-Some.is)
    (made_of_words c.in-Some.region c.new.result (left c.args.reader.now) (left now.new.reader)
    (held c.args.writer.now) (held now.new.writer) now.result c.new.ensures now.ensures)

pub returns-in-None : goal.returns-in-None
returns-in-None g c =
    let left = g.R.Read.remaining in
    let held = g.W.Write.contents in
    let now = c.run-in-None in
    subst (λ words. RunsScript words (left c.args.reader.now) (left now.new.reader) (held c.args.writer.now)
    (held now.new.writer) now.result) (sym c.in-None.is)
    (made c.new-in-None.result (left c.args.reader.now) (left now.new.reader) (held c.args.writer.now)
    (held now.new.writer) now.result c.new-in-None.ensures now.ensures)
