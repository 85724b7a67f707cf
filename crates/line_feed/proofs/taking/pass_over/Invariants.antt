use Rattle.std.specs.Io.KnownBytes.{prepend_known}
use Rattle.line_feed.proofs.Passing.{Passes}
use Rattle.line_feed.proofs.taking.pass_over.Given as goal

-- a beginning of the line was passed over, and what is held goes on with it
abbrev pub invariant-loop-turn : goal.invariant-loop-turn
invariant-loop-turn g l = Passes (prepend_known l.fn.held l.fn.source.left) l.held l.source.left
