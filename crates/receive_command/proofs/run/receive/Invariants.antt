use Rattle.std.proofs.Common.{◌≡◌, List, [], IsTrue, is_some}
use Rattle.receive_command.specs.declared.group_lines.group_line.GroupLine.{GroupLine}
use Rattle.receive_command.specs.Receiving.{at_first, HearsEach}
use Rattle.receive_command.specs.View.{standing_of}
use Rattle.receive_command.proofs.run.receive.Given as goal

-- some lines were heard, and all that there was to tell is written
abbrev pub invariant-loop-turn : goal.invariant-loop-turn
invariant-loop-turn g l =
    ((lines : List GroupLine) × HearsEach l.form (is_some l.clock) lines
    (at_first (g.F.Feed.remaining l.fn.feed) (g.W.Write.contents l.fn.writer) (l.fn.errors))
    (standing_of l.hearing (g.F.Feed.remaining l.feed) (g.W.Write.contents l.writer) (l.errors)))
    × (l.buffers.output.bytes ≡ []) × IsTrue l.buffers.output.is_whole
