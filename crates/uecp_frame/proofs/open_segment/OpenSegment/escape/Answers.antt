use Rattle.std.proofs.Common.{◌∙◌, sym, refl, length, arith, true}
use Rattle.std.proofs.lemmas.Bool.{eqb-true, eqb-false}
use Rattle.uecp_frame.proofs.Steps.{step_escape, step_full, inside_escaping}
use Rattle.uecp_frame.proofs.open_segment.OpenSegment.escape.Goals as goal

pub returns-then-is_full-clause-part : goal.returns-then-is_full-clause-part
returns-then-is_full-clause-part c =
    step_full c.args.self.now.plain.items (eqb-true (length c.args.self.now.plain.items) 261
    (sym c.is_full.ensures.value ∙ c.if-is_full.true))

pub returns-else-is_full-clause-part : goal.returns-else-is_full-clause-part
returns-else-is_full-clause-part c =
    let now = c.args.self.now in
    let p = now.plain.items in
    let ne = eqb-false (length p) 261 (sym c.is_full.ensures.value ∙ c.if-is_full.false) in
    step_escape p (omega (arith, ne, c.is_full.ensures.fits))
    ∙ sym (inside_escaping now.fault p true c.requires.certain refl)
