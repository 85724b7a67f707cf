use Rattle.std.proofs.Common.{arith, take}
use Rattle.option_files.proofs.LastLines.{at_more}
use Rattle.option_files.proofs.place.place_at.Goals as goal

pub loop-byte-preserved : goal.loop-byte-preserved
loop-byte-preserved c =
    at_more (take c.min.result c.args.text.now) c.loop-byte.byte-index c.loop-byte.place.line c.loop-byte.place.column
    c.moved-place.result.line c.moved-place.result.column (omega arith) c.loop-byte.invariant c.moved-place.ensures.line
    c.moved-place.ensures.column
