use Rattle.std.proofs.Common.{◌≤◌, length}
use Rattle.phrase_tokens.proofs.Inner.{Spelled}
use Rattle.phrase_tokens.proofs.tokens_read.quoted_at.Given as goal

-- the bytes so far are spelled in front of what is left
abbrev pub invariant-loop-first : goal.invariant-loop-first
invariant-loop-first l = record {
  spelled : Spelled l.body l.left l.bytes.items;
  few : length l.bytes.items ≤ 64;
}

abbrev pub decreases-loop-first : goal.decreases-loop-first
decreases-loop-first l = length l.left
