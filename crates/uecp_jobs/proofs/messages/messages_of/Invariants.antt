use Rattle.std.proofs.Common.{◌≡◌, ◌+◌, ◌≤◌, ◌++◌, length}
use Rattle.uecp_text.specs.Input.{lines_of, numbered, texts_of}
use Rattle.uecp_jobs.specs.Messages.{messages_first, refusal_in}
use Rattle.uecp_jobs.proofs.messages.messages_of.Given as goal

-- the messages so far come before those of the rest, and no line was refused yet
abbrev pub invariant-loop-rest : goal.invariant-loop-rest
invariant-loop-rest l = record {
  count : l.number + length l.rest ≤ 1 + length l.input;
  messages : messages_first (texts_of l.input) ≡ l.list.items ++ messages_first (numbered l.number (lines_of l.rest));
  refusal : refusal_in (texts_of l.input) ≡ refusal_in (numbered l.number (lines_of l.rest));
}

abbrev pub decreases-loop-rest : goal.decreases-loop-rest
decreases-loop-rest l = length l.rest
