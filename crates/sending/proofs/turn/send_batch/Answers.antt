use Rattle.std.proofs.Common.{rules, ◌≡◌, sym, ap, subst, ◌∙◌}
use Rattle.uecp_link.specs.declared.counts.ServerCounts.{ServerCounts}
use Rattle.uecp_link.specs.Server.{waiting}
use Rattle.uecp_net.specs.Sending.{submitted_all}
use Rattle.sending.specs.Sent.{sent_after}
use Rattle.sending.specs.Run.{AnswersTold, RepliesOf}
use Rattle.sending.proofs.Waiting.{waiting_of_batch}
use Rattle.sending.proofs.turn.send_batch.Goals as goal

pub returns-clause-sends : goal.returns-clause-sends
returns-clause-sends g c =
    let sent = c.send_kept-ended in
    let before = c.args.teller.now.held in
    let after = c.tell_replies.new.self.held in
    let last : c.last.result ≡ c.args.sender.now.sender.server.last = search rules in
    let counts : c.counts.result ≡ sent.new.sender.sender.server.counts = search rules in
    let waits : c.as_slice.result.now ≡ waiting (submitted_all c.args.sender.now
    c.args.batch.now).sender.server =
    c.as_slice.ensures.value ∙ c.sent_after-sent.ensures
    ∙ ap (λ n. sent_after n c.args.batch.now) last
    ∙ sym (waiting_of_batch c.args.sender.now c.args.batch.now c.requires.idle) in (
      sent.result,
      search rules,
      subst (λ (cs : ServerCounts). AnswersTold c.args.account (RepliesOf c.args.account sent.new.progress.taken
          (waiting (submitted_all c.args.sender.now c.args.batch.now).sender.server)) cs sent.result
          before after c.tell_replies.result) counts
          (subst (λ l. AnswersTold c.args.account (RepliesOf c.args.account sent.new.progress.taken l) c.counts.result
          sent.result
          before after c.tell_replies.result) waits c.tell_replies.ensures.tells),
      search rules,
      c.unknown_of-course.ensures,
    )
