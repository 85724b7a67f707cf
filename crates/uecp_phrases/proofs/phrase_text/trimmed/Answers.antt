use Rattle.std.proofs.Common.{◌-◌, sym, ◌∙◌, arith}
use Rattle.uecp_phrases.proofs.WritingNames.{space_dropped, other_kept, none_kept}
use Rattle.uecp_phrases.proofs.phrase_text.trimmed.Goals as goal
use Rattle.uecp_phrases.proofs.phrase_text.trimmed.Goals.{then-loop-end-test+else-name-end-eq32, else-loop-end-test}

pub loop-end-preserved : goal.loop-end-preserved
loop-end-preserved c = (
  space_dropped c.args.name.now c.loop-end.end (c.loop-end.end - 1) (omega (arith, c.loop-end-test.true))
      c.loop-end.invariant.1 c.if-name-end-eq32.true
      ∙ c.loop-end.invariant.0,
  omega (arith, c.loop-end.invariant.1),
)

pub returns-clause-name : goal.returns-clause-name
returns-clause-name c = elim c.loop-end-test.branch [
  | then-loop-end-test+else-name-end-eq32 w ↦
      sym (other_kept c.args.name.now c.loop-end.end (c.loop-end.end - 1) (omega (arith, w.loop-end-test.true))
      c.loop-end.invariant.1 w.if-name-end-eq32.false)
      ∙ c.loop-end.invariant.0
  | else-loop-end-test w ↦
      sym (none_kept c.args.name.now c.loop-end.end (omega (arith, w.loop-end-test.false))) ∙ c.loop-end.invariant.0
]
