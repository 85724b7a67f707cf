use Rattle.std.proofs.Common.{rules}
use Rattle.std.specs.Io.KnownBytes.{IsAtEnd}
use Rattle.page_server.proofs.Reading.{nothing_read, takes_of_read, takes_last_of}
use Rattle.page_server.proofs.server.Serving.take_lines.Goals as goal

pub returns-then-not-has_input-clause-moves : goal.returns-then-not-has_input-clause-moves
returns-then-not-has_input-clause-moves g c = nothing_read (g.R.Read.remaining c.args.reader.now) c.args.self.now.intake

pub returns-in-Ok-true-clause-moves : goal.returns-in-Ok-true-clause-moves
returns-in-Ok-true-clause-moves g c =
    let (bytes, came, brings, so) = c.in-Ok-true.ensures.read in
    takes_of_read (g.R.Read.remaining c.args.reader.now) (g.R.Read.remaining c.read.new.reader) bytes
    c.args.self.now.intake c.read.new.self c.take_read-in-Ok-true.new.self.intake c.take_read-in-Ok-true.result came so
    c.take_read-in-Ok-true.ensures.more c.take_read-in-Ok-true.ensures.goes_on

pub returns-in-Ok-false-clause-moves : goal.returns-in-Ok-false-clause-moves
returns-in-Ok-false-clause-moves g c =
    let (bytes, came, brings, so) = c.in-Ok-false.ensures.read in
    let at_end : IsAtEnd (g.R.Read.remaining c.read.new.reader) = search rules in
    takes_last_of (g.R.Read.remaining c.args.reader.now) (g.R.Read.remaining c.read.new.reader) bytes
    c.args.self.now.intake c.read.new.self c.take_last.new.self.intake c.take_last.result came at_end so
    c.take_last.ensures.ended c.take_last.ensures.ends
