use Rattle.uecp_net.proofs.Joined.{begins_anew_lem}
use Rattle.uecp_net.proofs.laws.a_cut_pass_begins_anew.Goals as goal

pub returns : goal.returns
returns g c = begins_anew_lem g.C.Connections.opens g.C.Connections.closes g.C.Input.Read.remaining
    g.C.Output.Write.contents
