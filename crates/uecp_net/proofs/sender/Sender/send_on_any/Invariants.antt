use Rattle.std.proofs.Common.{◌≡◌, ◌≢◌, ℕ, [], Result}
use Rattle.uecp_net.specs.declared.sender.Outstanding.{Outstanding}
use Rattle.uecp_net.specs.declared.sender.Outstanding.TheVariants.{ConnectionFailed}
use Rattle.uecp_net.specs.Sending.{SenderOver, Marks, Delivers, Follows}
use Rattle.uecp_net.proofs.sender.Sender.send_on_any.Given as goal

-- messages are outstanding, and of the sender itself nothing but the server and the reconnects has changed: whatever is
-- delivered from here on is delivered from the start on
abbrev pub invariant-connections : goal.invariant-connections
invariant-connections g l = record {
  busy : l.self.sender.server.held ≢ [];
  follows : Follows l.fn.self.sender.server l.self.sender.server [] l.marks.items;
  stays : record l.self.sender { server = l.fn.self.sender.server; left = l.fn.self.sender.left } ≡ l.fn.self.sender;
  on : (end : SenderOver g.row.C.Denot g.row.C-Input.Denot g.row.C-Output.Denot) (marks : Marks)
      (result : Result ℕ Outstanding) (ended : ℕ) →
      Delivers g.C.Connections.opens g.C.Connections.closes g.C.Input.Read.remaining g.C.Output.Write.contents ended
      l.reason
      l.self end l.marks.items marks result →
      (all : ℕ) × Delivers g.C.Connections.opens g.C.Connections.closes g.C.Input.Read.remaining
      g.C.Output.Write.contents all
      ConnectionFailed l.fn.self end [] marks result;
}

-- the reconnects that are left
abbrev pub decreases-connections : goal.decreases-connections
decreases-connections g l = l.self.sender.left
