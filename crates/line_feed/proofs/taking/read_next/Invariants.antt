use Rattle.std.proofs.Common.{◌≡◌, []}
use Rattle.std.specs.Io.KnownBytes.{Keeps, prepend_known}
use Rattle.line_feed.specs.Lines.{HasNoEnd}
use Rattle.line_feed.proofs.taking.read_next.Given as goal

-- all is left, and the line is empty, and no line is held
abbrev pub invariant-loop-turn : goal.invariant-loop-turn
invariant-loop-turn g l =
    Keeps (prepend_known l.fn.held l.fn.source.left) (prepend_known l.held l.source.left) × (l.line.items ≡ [])
    × HasNoEnd l.held
