use Rattle.std.proofs.Common.{sym, ◌∙◌}
use Rattle.uecp_net.proofs.Breaking.{closed_by}
use Rattle.uecp_net.proofs.sender.Sender.hang_up.Goals as goal

pub returns-in-Some : goal.returns-in-Some
returns-in-Some g c =
    closed_by g.C.Input.Read.remaining g.C.Output.Write.contents g.C.Connections.opens g.C.Connections.closes
    c.args.self.now _
    c.in-Some.ends c.take.new.self c.into_inner.result c.into_inner-in-Some.result c.close.new.self c.self.view_is
    (sym c.take.ensures.value ∙ c.in-Some.is) c.take.ensures.after c.into_inner.ensures c.into_inner-in-Some.ensures
    c.close.ensures
