use Rattle.std.proofs.Common.{◌≡◌, ◌+◌, ◌≤◌, ◌++◌, length, vec_len, vec_capacity}
use Rattle.uecp_text.proofs.output.put_after.Given as goal

-- what is held and what is left are all of it, and there is room for what is left
abbrev pub invariant-loop-rest : goal.invariant-loop-rest
invariant-loop-rest l = record {
  whole : l.held.items ++ l.rest ≡ l.fn.held.items ++ l.bytes;
  room : vec_len l.held + length l.rest ≤ vec_capacity l.held;
}

abbrev pub decreases-loop-rest : goal.decreases-loop-rest
decreases-loop-rest l = length l.rest
