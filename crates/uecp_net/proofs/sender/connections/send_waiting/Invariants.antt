use Rattle.std.proofs.Common.{◌≢◌, []}
use Rattle.uecp_net.specs.Sending.{SpentCalls, Follows}
use Rattle.uecp_net.proofs.sender.connections.send_waiting.Given as goal

-- messages wait after each call so far
abbrev pub invariant-loop-before : goal.invariant-loop-before
invariant-loop-before g l = record {
  busy : l.server.held ≢ [];
  spent : SpentCalls g.R.Read.remaining g.W.Write.contents l.fn.limits.turns l.before
      (record { server = l.fn.server; input = l.fn.reader; output = l.fn.writer; marks = l.fn.marks.items })
      (record { server = l.server; input = l.reader; output = l.writer; marks = l.marks.items });
  follows : Follows l.fn.server l.server l.fn.marks.items l.marks.items;
}
