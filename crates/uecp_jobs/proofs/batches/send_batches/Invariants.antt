use Rattle.std.proofs.Common.{◌≡◌, ℕ, List, [], Option, Result, length}
use Rattle.uecp_text.specs.declared.run_fault.RunFault.{RunFault}
use Rattle.uecp_net.specs.Sending.{SenderOver}
use Rattle.uecp_jobs.specs.Batches.{SendsOut}
use Rattle.uecp_jobs.proofs.batches.send_batches.Given as goal

-- the server is idle, and whatever is sent of the rest from here on is sent of all from the start on
abbrev pub invariant-loop-rest : goal.invariant-loop-rest
invariant-loop-rest g l = record {
  idle : l.sender.sender.server.held ≡ [];
  loan : l.sender.loan ≡ l.fn.sender.loan;
  on : (end : SenderOver g.row.C.Denot g.row.C-Input.Denot g.row.C-Output.Denot) (held' : Option (List ℕ))
      (result : Result (Unit {0}) RunFault) (batches : ℕ) →
      SendsOut g.C.Connections.opens g.C.Connections.closes g.C.Input.Read.remaining g.C.Output.Write.contents l.size
      batches
      l.sender l.rest (g.W.Write.contents l.writer) held' result end →
      (all : ℕ) × SendsOut g.C.Connections.opens g.C.Connections.closes g.C.Input.Read.remaining
      g.C.Output.Write.contents
      l.size all l.fn.sender l.messages (g.W.Write.contents l.fn.writer) held' result end;
}

abbrev pub decreases-loop-rest : goal.decreases-loop-rest
decreases-loop-rest g l = length l.rest
