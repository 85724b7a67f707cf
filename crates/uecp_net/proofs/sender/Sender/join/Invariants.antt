use Rattle.std.proofs.Common.{◌≡◌, ◌≤◌, ℕ, [], None, Result}
use Rattle.uecp_net.specs.declared.sender.Outstanding.{Outstanding}
use Rattle.uecp_net.specs.declared.sender.Outstanding.TheVariants.{ConnectionFailed}
use Rattle.uecp_net.specs.Sending.{SenderOver, HangsUp}
use Rattle.uecp_net.specs.Joining.{JoinsOver}
use Rattle.uecp_net.proofs.sender.Sender.join.Given as goal

-- no message is held and there is no connection, and of the sender itself nothing but the server and the reconnects has
-- changed: however the encoder is joined from here on, it is joined from the start on
abbrev pub invariant-connections : goal.invariant-connections
invariant-connections g l = record {
  idle : l.self.sender.server.held ≡ [];
  part : l.behind ≤ 254;
  none : l.self.ends ≡ None;
  loan : l.self.loan ≡ l.fn.self.loan;
  stays : record l.self.sender { server = l.fn.self.sender.server; left = l.fn.self.sender.left } ≡ l.fn.self.sender;
  on : (end : SenderOver g.row.C.Denot g.row.C-Input.Denot g.row.C-Output.Denot)
      (result : Result (Unit {0}) Outstanding) (ended : ℕ) →
      JoinsOver g.C.Connections.opens g.C.Connections.closes g.C.Input.Read.remaining g.C.Output.Write.contents ended
      l.reason l.behind
      l.self end result →
      (first : SenderOver g.row.C.Denot g.row.C-Input.Denot g.row.C-Output.Denot) × (all : ℕ)
      × HangsUp g.C.Connections.closes l.fn.self first × JoinsOver g.C.Connections.opens g.C.Connections.closes
      g.C.Input.Read.remaining g.C.Output.Write.contents all ConnectionFailed 0 first end result;
}

-- the reconnects that are left
abbrev pub decreases-connections : goal.decreases-connections
decreases-connections g l = l.self.sender.left
