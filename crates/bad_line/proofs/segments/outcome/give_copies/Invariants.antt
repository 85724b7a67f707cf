use Rattle.std.proofs.Common.{◌≡◌, ◌++◌}
use Rattle.bad_line.specs.Pieces.{times}
use Rattle.bad_line.proofs.segments.outcome.give_copies.Given as goal

-- so many copies have come out
abbrev pub invariant-loop-copy : goal.invariant-loop-copy
invariant-loop-copy l = l.out.items ≡ l.initial.out.items ++ times l._copy l.bytes
