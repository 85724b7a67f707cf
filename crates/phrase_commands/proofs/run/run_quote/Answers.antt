use Rattle.phrase_commands.proofs.Ends.{all_well, ended}
use Rattle.phrase_commands.proofs.run.run_quote.Goals as goal

pub returns-in-Ok : goal.returns-in-Ok
returns-in-Ok g c =
    let left = g.R.Read.remaining in
    let held = g.W.Write.contents in
    all_well (left c.args.reader.now) (left c.quote.new.reader) (held c.args.writer.now) (held c.quote.new.writer)
    c.args.errors.now c.in-Ok.ensures

pub returns-in-Err : goal.returns-in-Err
returns-in-Err g c =
    let left = g.R.Read.remaining in
    let held = g.W.Write.contents in
    ended (left c.args.reader.now) (left c.quote.new.reader) (held c.args.writer.now) (held c.quote.new.writer)
    c.args.errors.now c.fail.new.errors c.in-Err.fault c.fail.result c.in-Err.ensures c.fail.ensures.status
    c.fail.ensures.said
