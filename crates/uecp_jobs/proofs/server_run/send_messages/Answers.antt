use Rattle.std.proofs.Common.{◌≡◌, sym, ap, subst, ◌∙◌}
use Rattle.uecp_jobs.specs.ServerRun.{RunsSender}
use Rattle.uecp_jobs.proofs.ServerRun.{starts_so}
use Rattle.uecp_jobs.proofs.server_run.send_messages.Goals as goal

pub returns : goal.returns
returns g c =
    let start = c.new-sender.result in
    let loan = start.loan in
    let sent = c.run_sender-sent in
    let (end, hangs_up, end_is) = c.finish-connect.ensures.value in
    let same : c.finish-connect.result.ghost_name ≡ sent.new.sender.loan = c.finish-connect.ensures.same in
    let given = ap (λ s. s.loan) c.new-sender.ensures in
    let start_is = starts_so start c.args.connect.now _ c.new.result c.args.address c.args.limits c.new-sender.ensures
    c.new.ensures in (
      loan,
      sent.new.sender,
      subst (λ s. RunsSender g.C.Connections.opens g.C.Connections.closes g.C.Input.Read.remaining
          g.C.Output.Write.contents
          c.args.join c.args.size s c.args.messages.now (g.W.Write.contents c.args.writer.now)
          (g.W.Write.contents sent.new.writer) sent.result sent.new.sender) start_is sent.ensures.runs,
      (end, hangs_up, c.connect-1.given.1 (sym given ∙ sym sent.ensures.loan ∙ sym same) ∙ end_is),
    )
