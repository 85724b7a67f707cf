use Rattle.std.proofs.Common.{rules, ◌≡◌, Ok, ◌+◌, ◌-◌, ◌++◌, length, sym, ap, subst, ◌∙◌}
use Rattle.kept_jobs.specs.Stops.{TellsKept}
use Rattle.sending.specs.Accounts.{AreReplies}
use Rattle.sending.specs.Run.{AnswersTold, RepliesOf}
use Rattle.sending.proofs.teller.Teller.tell_replies.Goals as goal

pub returns-in-Ok-clause-tells : goal.returns-in-Ok-clause-tells
returns-in-Ok-clause-tells g c =
    let (told, are, adds) = c.put_replies_by.ensures in
    let after = g.W.Write.contents c.write_told.new.writer in
    let first : c.first_of-first.result ≡ c.args.last + 1 - length c.in-Ok.settled.codes.items = search rules in
    subst (λ e. AnswersTold c.args.account (RepliesOf c.args.account c.args.last c.args.sent.now) c.args.counts e
    c.args.self.now.held after c.write_told.result) (sym c.in-Ok.is) (
      told,
      subst (λ n. AreReplies c.args.account n c.args.sent.now c.in-Ok.settled told) first are,
      subst (λ before. TellsKept told (Ok tt) before after c.write_told.result) (ap (λ t. t.held) c.self.view_is)
          (c.write_told.ensures.tells told
          (λ whole. (adds whole).1 ∙ ap (λ l. l ++ told) c.new-output.ensures.empty)),
    )
