use Rattle.std.proofs.Common.{◌≡◌, ◌+◌, ◌∙◌, ℕ, ap, sym, refl, length, arith, [], true, false, inl, inr}
use Rattle.std.proofs.lemmas.Bool.{cases_lt}
use Rattle.uecp_frame.specs.Stuffing.{stuffed}
use Rattle.uecp_frame.specs.Findings.{Part}
use Rattle.uecp_frame.proofs.Resumed.{length-stuffed-le}
use Rattle.uecp_frame.proofs.Steps.{step_run, step_overrun, length-stuffed-run, inside_plain}
use Rattle.uecp_frame.proofs.open_segment.OpenSegment.add.Goals as goal

pub overflow_add-self : goal.overflow_add-self
overflow_add-self c = omega (
  arith,
  c.in-Ok.ensures.variant.0 refl,
  c.requires.kept.counted c.requires.certain,
  length-stuffed-le c.args.self.now.plain.items,
)

pub returns-in-Ok-clause-part : goal.returns-in-Ok-clause-part
returns-in-Ok-clause-part c =
    let now = c.args.self.now in
    step_run now.plain.items c.args.run.now c.requires.some c.requires.below (c.in-Ok.ensures.variant.0 refl)
    ∙ sym (inside_plain now.fault c.try_extend_from_slice.new.self.items now.is_escaping c.requires.certain
    c.requires.plain
    ∙ ap (λ q. Part (record { plain = q; rest = [] })) c.in-Ok.ensures.ok)

pub returns-in-Ok-clause-kept : goal.returns-in-Ok-clause-kept
returns-in-Ok-clause-kept c =
    let p = c.args.self.now.plain.items in
    let run = c.args.run.now in
    record {
      counted = λ e. ap (λ (n : ℕ). n + length run) (c.requires.kept.counted c.requires.certain)
          ∙ sym (ap (λ q. length (stuffed q)) c.in-Ok.ensures.ok ∙ length-stuffed-run p run c.requires.below);
      room = λ e. let k : false ≡ true = sym c.requires.plain ∙ e in absurd (cc);
    }

pub returns-in-Err-clause-part : goal.returns-in-Err-clause-part
returns-in-Err-clause-part c =
    let p = c.args.self.now.plain.items in
    let run = c.args.run.now in
    step_overrun p run c.requires.some c.requires.below (elim (cases_lt 261 (length p + length run)) [
      | inl long ↦ long
      | inr fits ↦ (let k : false ≡ true = c.in-Err.ensures.variant.1 fits in absurd (cc))
    ])
