use Rattle.std.proofs.Common.{◌+◌, ◌∙◌, ℕ, ap, sym, length, arith, Ok, Err, [], ◌∷◌}
use Rattle.uecp_frame.specs.declared.fault.FrameFault.TheVariants.{BadStuffing}
use Rattle.uecp_frame.specs.Segment.{content, frame_of}
use Rattle.uecp_frame.specs.Findings.{Finding}
use Rattle.uecp_frame.specs.Beyond.{closing}
use Rattle.uecp_frame.proofs.Resumed.{length-stuffed-le}
use Rattle.uecp_frame.proofs.Steps.{close_escaping, close_whole, inside_escaping, inside_plain}
use Rattle.uecp_frame.proofs.open_segment.OpenSegment.judged.Goals as goal

pub overflow_add-result : goal.overflow_add-result
overflow_add-result c = omega (
  arith,
  c.requires.counted c.in-None.is,
  length-stuffed-le c.args.self.now.plain.items,
  c.requires.room c.if-self.true,
)

pub returns-then-self-clause-findings : goal.returns-then-self-clause-findings
returns-then-self-clause-findings c =
    let now = c.args.self.now in
    ap (λ o. closing o [] 255) (inside_escaping now.fault now.plain.items now.is_escaping c.in-None.is c.if-self.true)
    ∙ ap (λ j. j ∷ []) (close_escaping now.plain.items (c.requires.room c.if-self.true)
    ∙ ap (λ (n : ℕ). let f : Finding = Err (BadStuffing (1 + n)) in f) (sym (c.requires.counted c.in-None.is)))

pub returns-in-Ok-clause-findings : goal.returns-in-Ok-clause-findings
returns-in-Ok-clause-findings c =
    let now = c.args.self.now in
    ap (λ o. closing o [] 255) (inside_plain now.fault now.plain.items now.is_escaping c.in-None.is c.if-self.false)
    ∙ ap (λ j. j ∷ []) (close_whole now.plain.items (omega
    (arith, c.as_slice.ensures.fits, ap length c.as_slice.ensures.value))
    ∙ ap content (sym c.as_slice.ensures.value) ∙ c.in-Ok.ensures.ok
    ∙ ap (λ x. let f : Finding = Ok (frame_of x) in f) c.as_slice.ensures.value)

pub returns-in-Err-clause-findings : goal.returns-in-Err-clause-findings
returns-in-Err-clause-findings c =
    let now = c.args.self.now in
    ap (λ o. closing o [] 255) (inside_plain now.fault now.plain.items now.is_escaping c.in-None.is c.if-self.false)
    ∙ ap (λ j. j ∷ []) (close_whole now.plain.items (omega
    (arith, c.as_slice.ensures.fits, ap length c.as_slice.ensures.value))
    ∙ ap content (sym c.as_slice.ensures.value) ∙ c.in-Err.ensures.err)
