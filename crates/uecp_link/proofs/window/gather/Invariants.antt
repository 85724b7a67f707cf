use Rattle.uecp_link.specs.Window.{Gathered}
use Rattle.uecp_link.proofs.window.gather.Given as goal

-- no read failed, and messages wait
abbrev pub invariant-loop-turn : goal.invariant-loop-turn
invariant-loop-turn g l = Gathered g.R.Read.remaining l.fn.server l.server l.fn.reader l.reader l.fn.marks.items
    l.marks.items l._turn
