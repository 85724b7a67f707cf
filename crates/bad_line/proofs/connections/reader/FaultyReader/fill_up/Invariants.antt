use Rattle.std.proofs.Common.{ℕ}
use Rattle.bad_line.specs.Ends.{FillsInTurn}
use Rattle.bad_line.proofs.connections.reader.FaultyReader.fill_up.Given as goal

-- the device was read so often
abbrev pub invariant-loop-read : goal.invariant-loop-read
invariant-loop-read g l = (reads : ℕ) × FillsInTurn g.R.Read.remaining reads l.initial.self l.self
