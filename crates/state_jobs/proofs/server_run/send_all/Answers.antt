use Rattle.std.proofs.Common.{◌≡◌, ◌<◌, ◌^◌, length, ap, subst, ◌∙◌, inl}
use Rattle.uecp_text.specs.Input.{texts_of}
use Rattle.uecp_jobs.specs.Messages.{messages_first, refusal_in}
use Rattle.state_jobs.specs.ServerRun.{SendsList}
use Rattle.state_jobs.proofs.server_run.send_all.Goals as goal

pub returns : goal.returns
returns g c =
    let k = g.K.Keep in
    let sent = c.send_list in
    let now = sent.new in
    let messages_are = c.in_ok-messages.ensures.messages
    ∙ ap (λ bytes. messages_first (texts_of bytes)) c.as_slice.ensures.value in
    let refused_is = c.in_ok-messages.ensures.refused_line
    ∙ ap (λ bytes. refusal_in (texts_of bytes)) c.as_slice.ensures.value in
    record {
      runs = inl (
        c.in_ok-input.input.items,
        c.run_of-run.result,
        c.in_ok-input.ensures.input,
        c.run_of-run.ensures,
        subst (λ ms. length ms < 2 ^ 59) messages_are sent.ensures.few,
        subst (λ r. SendsList g.C.Connections.opens g.C.Connections.closes g.C.Input.Read.remaining
            g.C.Output.Write.contents k.leaves k.is_clean k.saves k.fails c.run_of-run.result
            (messages_first (texts_of c.in_ok-input.input.items)) r c.args.connect.now now.connect (record {
              runs = c.args.start.server;
              keeper = c.args.keeper.now;
              progress = c.args.start.progress;
              held = g.W.Write.contents c.args.writer.now;
            }) now.keeper (g.W.Write.contents now.writer) sent.result) refused_is
            (subst (λ ms. SendsList g.C.Connections.opens g.C.Connections.closes g.C.Input.Read.remaining
            g.C.Output.Write.contents k.leaves k.is_clean k.saves k.fails c.run_of-run.result ms
            c.in_ok-messages.messages.refused c.args.connect.now now.connect (record {
              runs = c.args.start.server;
              keeper = c.args.keeper.now;
              progress = c.args.start.progress;
              held = g.W.Write.contents c.args.writer.now;
            }) now.keeper (g.W.Write.contents now.writer) sent.result) messages_are sent.ensures.sends),
      );
    }
