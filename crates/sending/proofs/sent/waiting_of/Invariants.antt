use Rattle.std.proofs.Common.{◌≡◌, ◌≤◌, take, length}
use Rattle.uecp_link.specs.Server.{waiting_among}
use Rattle.sending.proofs.sent.waiting_of.Given as goal

-- those that wait so far
abbrev pub invariant-loop-place : goal.invariant-loop-place
invariant-loop-place l = record {
  are : l.sent.items ≡ waiting_among (take l.place l.server.held);
  few : length l.sent.items ≤ l.place;
}
