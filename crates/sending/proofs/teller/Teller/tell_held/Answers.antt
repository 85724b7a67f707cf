use Rattle.std.proofs.Common.{Ok, ◌++◌, sym, ap, subst, ◌∙◌}
use Rattle.kept_jobs.specs.Stops.{TellsKept}
use Rattle.sending.specs.Accounts.{AreHeld}
use Rattle.sending.specs.Run.{AnswersTold}
use Rattle.sending.proofs.teller.Teller.tell_held.Goals as goal

pub returns-in-Ok-clause-tells : goal.returns-in-Ok-clause-tells
returns-in-Ok-clause-tells g c =
    let (told, are, adds) = c.put_held_by.ensures in
    let after = g.W.Write.contents c.write_told.new.writer in
    subst (λ e. AnswersTold c.args.account (AreHeld c.args.account c.args.first c.args.marks.now c.args.sent.now)
    c.args.counts e c.args.self.now.held after c.write_told.result) (sym c.in-Ok.is) (
      told,
      are,
      subst (λ before. TellsKept told (Ok tt) before after c.write_told.result) (ap (λ t. t.held) c.self.view_is)
          (c.write_told.ensures.tells told
          (λ whole. (adds whole).1 ∙ ap (λ l. l ++ told) c.new-output.ensures.empty)),
    )
