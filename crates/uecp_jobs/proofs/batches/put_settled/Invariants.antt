use Rattle.std.proofs.Common.{take}
use Rattle.uecp_text.specs.Written.{Adds}
use Rattle.uecp_jobs.specs.Batches.{batch_lines}
use Rattle.uecp_jobs.proofs.batches.put_settled.Given as goal

-- the lines of the messages so far were put down
abbrev pub invariant-loop-code : goal.invariant-loop-code
invariant-loop-code l = Adds l.fn.output l.output
    (batch_lines (take l.code-index l.settled.codes.items) l.settled.tries)
