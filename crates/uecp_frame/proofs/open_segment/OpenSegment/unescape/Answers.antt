use Rattle.std.proofs.Common.{◌≡◌, ◌+◌, ◌∙◌, ℕ, [], ap, sym, refl, length, arith, true, false}
use Rattle.uecp_frame.specs.declared.fault.FrameFault.TheVariants.{BadStuffing}
use Rattle.uecp_frame.specs.Stuffing.{stuffed}
use Rattle.uecp_frame.specs.Findings.{Doomed, Part}
use Rattle.uecp_frame.proofs.Codes.{length-stuffed-escaped}
use Rattle.uecp_frame.proofs.Resumed.{length-stuffed-le}
use Rattle.uecp_frame.proofs.Steps.{step_escaped, step_bad, inside_plain}
use Rattle.uecp_frame.proofs.open_segment.OpenSegment.unescape.Goals as goal

pub overflow_add-self : goal.overflow_add-self
overflow_add-self c = omega (
  arith,
  c.requires.kept.counted c.requires.certain,
  length-stuffed-le c.args.self.now.plain.items,
  c.requires.kept.room c.requires.escaping,
)

pub overflow_add-self-else-byte-lt-STUFFED : goal.overflow_add-self-else-byte-lt-STUFFED
overflow_add-self-else-byte-lt-STUFFED c = omega (
  arith,
  c.requires.kept.counted c.requires.certain,
  length-stuffed-le c.args.self.now.plain.items,
  c.requires.kept.room c.requires.escaping,
)

pub returns-then-byte-lt-STUFFED-clause-part : goal.returns-then-byte-lt-STUFFED-clause-part
returns-then-byte-lt-STUFFED-clause-part c =
    let now = c.args.self.now in
    step_escaped now.plain.items c.args.byte c.if-byte-lt-STUFFED.true (c.requires.kept.room c.requires.escaping)
    ∙ sym (inside_plain now.fault c.push.new.self.items false c.requires.certain refl
    ∙ ap (λ q. Part (record { plain = q; rest = [] })) c.push.ensures.items)

pub returns-then-byte-lt-STUFFED-clause-kept : goal.returns-then-byte-lt-STUFFED-clause-kept
returns-then-byte-lt-STUFFED-clause-kept c = record {
  counted = λ e. ap (λ (n : ℕ). n + 2) (c.requires.kept.counted c.requires.certain)
      ∙ sym (ap (λ q. length (stuffed q)) c.push.ensures.items
      ∙ length-stuffed-escaped c.args.self.now.plain.items c.args.byte c.if-byte-lt-STUFFED.true);
  room = λ e. let k : false ≡ true = e in absurd (cc);
}

pub returns-else-byte-lt-STUFFED-clause-part : goal.returns-else-byte-lt-STUFFED-clause-part
returns-else-byte-lt-STUFFED-clause-part c =
    let now = c.args.self.now in
    step_bad now.plain.items c.args.byte c.if-byte-lt-STUFFED.false (c.requires.kept.room c.requires.escaping)
    ∙ ap (λ (n : ℕ). Doomed (BadStuffing (1 + n))) (sym (c.requires.kept.counted c.requires.certain))
