use Rattle.std.proofs.Common.{[], false}
use Rattle.uecp_link.specs.Reading.{Reads}
use Rattle.conformance_command.proofs.clearing.is_silent.Given as goal

-- all reads so far failed
abbrev pub invariant-loop-turn : goal.invariant-loop-turn
invariant-loop-turn g l = Reads g.R.Read.remaining l.fn.input l.input [] l._turn l._turn false
