use Rattle.std.proofs.Common.{◌≡◌, List, ℕ, ◌++◌, length}
use Rattle.std.specs.Io.KnownBytes.{Appends}
use Rattle.bad_line.proofs.connections.writer.FaultyWriter.deliver.Given as goal

-- the first of what waited was written
abbrev pub invariant-loop-self : goal.invariant-loop-self
invariant-loop-self g l = record {
  sent : List ℕ;
  appended : Appends (g.W.Write.contents l.initial.self-inside.device) (g.W.Write.contents l.self-inside.device) sent;
  waits : l.initial.self-inside.passage.waiting ≡ sent ++ l.self-inside.passage.waiting;
  same : l.self-inside.passage ≡ record l.initial.self-inside.passage { waiting = l.self-inside.passage.waiting };
}

abbrev pub decreases-loop-self : goal.decreases-loop-self
decreases-loop-self g l = length l.self-inside.passage.waiting
