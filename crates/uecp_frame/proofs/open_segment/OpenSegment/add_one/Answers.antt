use Rattle.std.proofs.Common.{◌≡◌, ◌<◌, ◌+◌, ◌∙◌, ℕ, zero, suc, [], ◌∷◌, ap, sym, length, get_or, arith, true}
use Rattle.std.proofs.Common.{false}
use Rattle.uecp_frame.specs.Stuffing.{stuffed}
use Rattle.uecp_frame.specs.Findings.{Part}
use Rattle.uecp_frame.proofs.Resumed.{length-stuffed-le}
use Rattle.uecp_frame.proofs.Steps.{step_run, length-stuffed-run, inside_plain}
use Rattle.uecp_frame.proofs.open_segment.OpenSegment.add_one.Goals as goal

run_of_one : (b : ℕ) → b < 253 → (k : ℕ) → k < length (b ∷ []) → get_or (b ∷ []) k 0 < 253
run_of_one b below zero l = below
run_of_one b below (suc k) l = absurd (omega arith)

pub overflow_add-self : goal.overflow_add-self
overflow_add-self c = omega (
  arith,
  c.requires.kept.counted c.requires.takes.certain,
  length-stuffed-le c.args.self.now.plain.items,
  c.requires.takes.room,
)

pub returns-clause-part : goal.returns-clause-part
returns-clause-part c =
    let now = c.args.self.now in
    let takes = c.requires.takes in
    step_run now.plain.items (c.args.byte ∷ []) (omega arith) (run_of_one c.args.byte takes.below)
    (omega (arith, takes.room))
    ∙ sym (inside_plain now.fault c.push.new.self.items now.is_escaping takes.certain takes.plain
    ∙ ap (λ q. Part (record { plain = q; rest = [] })) c.push.ensures.items)

pub returns-clause-kept : goal.returns-clause-kept
returns-clause-kept c =
    let p = c.args.self.now.plain.items in
    let takes = c.requires.takes in
    record {
      counted = λ e. ap (λ (n : ℕ). n + 1) (c.requires.kept.counted takes.certain)
          ∙ sym (ap (λ q. length (stuffed q)) c.push.ensures.items
          ∙ length-stuffed-run p (c.args.byte ∷ []) (run_of_one c.args.byte takes.below));
      room = λ e. let k : false ≡ true = sym takes.plain ∙ e in absurd (cc);
    }
