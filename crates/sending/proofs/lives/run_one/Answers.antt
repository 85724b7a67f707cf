use Rattle.std.proofs.Common.{◌≡◌, refl, sym, ap, subst, ◌∙◌}
use Rattle.uecp_net.specs.Sending.{SenderState}
use Rattle.kept_jobs.proofs.Public.{starts_so}
use Rattle.sending.specs.Run.{RunsLive, live}
use Rattle.sending.proofs.lives.run_one.Goals as goal

pub returns-clause-runs : goal.returns-clause-runs
returns-clause-runs g c =
    let k = g.K.Keep in
    let start = c.new-sender.result in
    let sent = c.run_sender-ran in
    let (end, hangs_up, end_is) = c.finish-connect.ensures.value in
    let same : c.finish-connect.result.ghost_name ≡ sent.new.sender.loan = c.finish-connect.ensures.same in
    let given = ap (λ s. s.loan) c.new-sender.ensures in
    let d : SenderState = record {
      server = c.args.server;
      tries = c.args.options.now.limits.tries;
      turns = c.args.options.now.limits.turns;
      left = c.args.options.now.limits.reconnects;
      reconnect_silent = c.args.options.now.limits.reconnect_silent;
    } in
    let start_is = starts_so start c.args.connect.now _ d c.new-sender.ensures in (
      sent.new.sender.sender.server,
      (
        start.loan,
        live sent.new.sender sent.new.keeper (g.S.Source.at sent.new.source) sent.new.teller sent.new.course,
        subst (λ s. RunsLive (g.S.Source.takes (g.S.Source.how c.args.source.now))
            g.C.Connections.opens
            g.C.Connections.closes g.C.Input.Read.remaining
            g.C.Output.Write.contents
            k.leaves k.is_clean k.saves
            k.fails c.args.options.now c.args.due
            (live s c.args.keeper.now (g.S.Source.at c.args.source.now) c.args.teller.now c.args.course.now)
            (live sent.new.sender sent.new.keeper (g.S.Source.at sent.new.source) sent.new.teller sent.new.course)
            sent.result)
            start_is sent.ensures.runs,
        (end, hangs_up, c.connect-1.given.1 (sym given ∙ sym sent.ensures.loan ∙ sym same) ∙ end_is),
        refl,
      ),
    )
