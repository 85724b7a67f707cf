use Rattle.std.proofs.Common.{rules, ◌≡◌, Ok, Err}
use Rattle.uecp_encoder.specs.declared.serving.KeptFault.TheVariants.{Serve}
use Rattle.uecp_net.proofs.Served.{serving_plain}
use Rattle.uecp_net.proofs.sessions.serve_connection.Goals as goal

pub returns-in-Ok-clause-served : goal.returns-in-Ok-clause-served
returns-in-Ok-clause-served g c =
    let s = c.serve_connection_with in
    let ended = c.in_ok-served.field-0 in
    let is : ended ≡ Ok c.in-Ok.served = search rules in
    serving_plain g.T.Target.step _ _ _ _ _ _ g.C.Connections.opens g.C.Connections.closes g.C.Input.Read.remaining
    g.C.Output.Write.contents c.args.turns c.args.encoder.now s.new.encoder _ s.new.keeper _ s.new.listener
    c.args.connect.now s.new.connect ended (Ok c.in-Ok.served) is c.in_ok-served.ensures.served

pub returns-in-Err-Serve-clause-served : goal.returns-in-Err-Serve-clause-served
returns-in-Err-Serve-clause-served g c =
    let s = c.serve_connection_with in
    let ended = c.in_ok-served.field-0 in
    let is : ended ≡ Err (Serve c.in-Err-Serve.fault) = search rules in
    serving_plain g.T.Target.step _ _ _ _ _ _ g.C.Connections.opens g.C.Connections.closes g.C.Input.Read.remaining
    g.C.Output.Write.contents c.args.turns c.args.encoder.now s.new.encoder _ s.new.keeper _ s.new.listener
    c.args.connect.now s.new.connect ended (Err c.in-Err-Serve.fault) is c.in_ok-served.ensures.served
