use Rattle.std.proofs.Common.{◌≡◌, take}
use Rattle.sending.specs.Run.{marks_in}
use Rattle.sending.proofs.turn.marks_of.Given as goal

-- the marks so far
abbrev pub invariant-loop-place : goal.invariant-loop-place
invariant-loop-place l = l.marks.items ≡ take l.place (marks_in l.server)
