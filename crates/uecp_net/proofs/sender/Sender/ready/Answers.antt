use Rattle.std.proofs.Common.{sym, ◌∙◌}
use Rattle.uecp_net.proofs.Breaking.{taken_out, new_one}
use Rattle.uecp_net.proofs.sender.Sender.ready.Goals as goal

pub returns-in-Some-clause-goes_on : goal.returns-in-Some-clause-goes_on
returns-in-Some-clause-goes_on g c =
    taken_out g.C.Input.Read.remaining g.C.Output.Write.contents g.C.Connections.opens g.C.Connections.closes
    c.args.self.now _
    c.in-Some.ends c.take.new.self c.self.view_is (sym c.take.ensures.value ∙ c.in-Some.is) c.take.ensures.after

pub returns-in-None-clause-goes_on : goal.returns-in-None-clause-goes_on
returns-in-None-clause-goes_on g c =
    new_one g.C.Input.Read.remaining g.C.Output.Write.contents g.C.Connections.opens g.C.Connections.closes
    c.args.self.now _ _
    c.take.new.self c.connected.result c.self.view_is (sym c.take.ensures.value ∙ c.in-None.is) c.take.ensures.after
    c.connected.ensures.opens
