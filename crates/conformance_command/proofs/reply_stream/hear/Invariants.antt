use Rattle.std.proofs.Common.{◌<◌, false}
use Rattle.uecp_link.specs.Reading.{Reads}
use Rattle.conformance_command.proofs.reply_stream.hear.Given as goal

-- what came so far was read, and so many reads failed, fewer than are allowed
abbrev pub invariant-loop-turn : goal.invariant-loop-turn
invariant-loop-turn g l = record {
  reads : Reads g.R.Read.remaining l.fn.input l.input l.came.items l._turn l.failed false;
  waits : l.failed < l.patience;
}
