use Rattle.std.proofs.Common.{Ok, Err, ◌++◌, codes, ap, subst, ◌∙◌}
use Rattle.kept_jobs.specs.Stops.{TellsKept}
use Rattle.sending.proofs.Outstanding.{told_off}
use Rattle.sending.proofs.teller.Teller.tell_batch_outstanding.Goals as goal

pub returns-in-Err-clause-tells : goal.returns-in-Err-clause-tells
returns-in-Err-clause-tells g c =
    let after = g.W.Write.contents c.write_told.new.writer in
    told_off (codes "outstanding\n") (Err c.args.stop) c.args.self.now.held after c.in-Err.other
    (subst (λ before. TellsKept (codes "outstanding\n") (Ok tt) before after (Err c.in-Err.other))
    (ap (λ t. t.held) c.self.view_is)
    (c.in-Err.ensures.tells (codes "outstanding\n")
    (λ whole. (c.text.ensures.added whole).1 ∙ ap (λ l. l ++ codes "outstanding\n") c.new-output.ensures.empty)))
