use Rattle.std.proofs.Common.{IfOk, subst}
use Rattle.std.specs.Io.KnownBytes.{prepend_known}
use Rattle.line_feed.specs.Lines.{IsNext}
use Rattle.line_feed.specs.Reading.{Reads, unread}
use Rattle.line_feed.proofs.reading.LineFeedFeed.next.Goals as goal

pub returns-clause-next : goal.returns-clause-next
returns-clause-next g c =
    let now = c.take_next.new in
    subst (λ (f : Reads g.row.A.Denot). IfOk c.take_next.result (IsNext (unread f) (prepend_known now.held
    now.source.left) now.line.items)) c.self.view_is c.take_next.ensures.next
