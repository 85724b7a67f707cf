use Rattle.std.specs.Io.KnownBytes.{Keeps}
use Rattle.conformance_command.proofs.patience.WaitingRead.read.Given as goal

-- what failed took nothing
abbrev pub invariant-loop-again : goal.invariant-loop-again
invariant-loop-again g l = Keeps (g.R.Read.remaining l.fn.self) (g.R.Read.remaining l.self-inside.reader)
