use Rattle.std.proofs.Common.{◌≡◌, Some, sym, ap, ◌∙◌}
use Rattle.sqlite_image.specs.declared.kept.Rows.TheVariants.{Unsure}
use Rattle.sqlite_image.proofs.KeepLemmas.{keeps_table}
use Rattle.sqlite_image.proofs.kept.Kept.save.Goals as goal

pub returns-in-Ok-clause-saved : goal.returns-in-Ok-clause-saved
returns-in-Ok-clause-saved g c clean =
    let store = c.write.new.conn.store in
    keeps_table g.S.Store _ (g.met.S.Store.settled store) (g.met.S.Store.stays store) (Some c.args.image.now)
    (c.in-Ok.ensures.made clean)

pub returns-in-Ok-clause-ended : goal.returns-in-Ok-clause-ended
returns-in-Ok-clause-ended g c ended =
    let rows : c.self.inside.rows ≡ Unsure = ap (λ k. k.rows) c.self.view_is ∙ ended in
    absurd (let e = sym c.in-Ok.is ∙ (c.write.ensures.idle rows).0 in cc)

pub returns-in-Err-clause-ended : goal.returns-in-Err-clause-ended
returns-in-Err-clause-ended g c ended =
    let rows : c.self.inside.rows ≡ Unsure = ap (λ k. k.rows) c.self.view_is ∙ ended in
    let idle = c.write.ensures.idle rows in
    (sym c.in-Err.is ∙ idle.0, rw (idle.1, ← rows, c.self.view_is))
