use Rattle.line_batches.proofs.Growing.{HasTaken}
use Rattle.line_batches.proofs.taking.take_batch.Given as goal

-- the lines that were taken give the messages of the batch, which has room for another and comes to a further line
abbrev pub invariant-loop-line : goal.invariant-loop-line
invariant-loop-line g l = let f = g.F.Feed in
    HasTaken f.remaining f.takes f.says f.passes l.reading.input l.reading.size l.reading.strict l._line (record {
      feed = l.fn.feed;
      lines = l.fn.tally.lines;
      refused = l.fn.tally.refused;
      said = l.fn.errors;
    }) (record {
      feed = l.feed;
      lines = l.tally.lines;
      refused = l.tally.refused;
      said = l.errors;
    }) l.batch.items
