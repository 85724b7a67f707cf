use Rattle.std.proofs.Common.{ap, ◌∙◌}
use Rattle.uecp_net.proofs.Breaking.{hung_loan}
use Rattle.uecp_net.proofs.sender.Sender.finish.Goals as goal

pub returns-clause-same : goal.returns-clause-same
returns-clause-same g c =
    ap (λ s. s.loan) c.self.view_is ∙ hung_loan g.C.Input.Read.remaining g.C.Output.Write.contents g.C.Connections.opens
    g.C.Connections.closes c.args.self c.hang_up.new.self c.hang_up.ensures

pub returns-clause-value : goal.returns-clause-value
returns-clause-value g c = (c.hang_up.new.self, c.hang_up.ensures, ap (λ s. s.connect) c.self.view_is)
