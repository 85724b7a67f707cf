-- A number that has not the name is none more, and from 32 on no number has a name.
use Rattle.std.proofs.Common.{◌≡◌, arith, inl, inr, subst}
use Rattle.std.proofs.Math.Nat.{le_antisymm}
use Rattle.std.proofs.lemmas.Bool.{cases_lt}
use Rattle.rds_text.specs.ProgrammeTypes.{HasName}
use Rattle.rds_text.proofs.Names.{none_from_32}
use Rattle.rds_text.proofs.programme_type.number_of.Goals as goal

pub loop-number-preserved : goal.loop-number-preserved
loop-number-preserved c = λ k below has.
    elim (cases_lt k c.loop-number.number) [
      | inl less ↦ c.loop-number.invariant k less has
      | inr more ↦
          let here : k ≡ c.loop-number.number = le_antisymm (omega arith) more in
          let is = c.has_name.ensures.1 (subst (λ n. HasName c.args.region n c.args.name.now) here has) in
          cc (is, c.if-has_name.false)
    ]

pub returns-clause-none : goal.returns-clause-none
returns-clause-none c = λ number has.
    elim (cases_lt number 32) [
      | inl below ↦ c.loop-number.invariant number (omega arith) has
      | inr past ↦ cc (has.1, none_from_32 c.args.region number past)
    ]
