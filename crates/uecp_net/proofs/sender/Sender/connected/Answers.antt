use Rattle.uecp_net.proofs.Breaking.{opened}
use Rattle.uecp_net.proofs.sender.Sender.connected.Goals as goal

pub returns-clause-opens : goal.returns-clause-opens
returns-clause-opens g c =
    opened g.C.Input.Read.remaining g.C.Output.Write.contents g.C.Connections.opens g.C.Connections.closes
    c.args.self.now _
    c.in_ok-input.input c.in_ok-input.output c.new.result c.new-2.result c.open.new.self c.line_lost.new.self
    c.self.view_is c.requires c.in_ok-input.ensures
    c.new.ensures.device c.new.ensures.calls c.new.ensures.failures c.new.ensures.empty c.new-2.ensures.device
    c.new-2.ensures.calls c.new-2.ensures.failures c.new-2.ensures.empty c.line_lost.ensures
