use Rattle.std.proofs.Common.{◌≡◌, take, vec_capacity, vec_len}
use Rattle.uecp_link.proofs.line_steps.copy_of.Given as goal

abbrev pub invariant-loop-code : goal.invariant-loop-code
invariant-loop-code l = record {
  codes : l.copy.items ≡ take l.code-index l.codes;
  count : vec_len l.copy ≡ l.code-index;
  room : vec_capacity l.copy ≡ l.room;
}
