use Rattle.std.proofs.Common.{◌*◌, ◌≤◌}
use Rattle.conformance_command.proofs.Heard.{LeftSoFar}
use Rattle.conformance_command.proofs.clearing.read_away.Given as goal

-- each read so far brought something
abbrev pub invariant-loop-turn : goal.invariant-loop-turn
invariant-loop-turn g l = record {
  so_far : LeftSoFar g.R.Read.remaining l.fn.input l.input l._turn l.bytes;
  few : l.bytes ≤ 64 * l._turn;
}
