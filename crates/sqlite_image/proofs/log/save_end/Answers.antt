use Rattle.std.proofs.Common.{ℕ, inl, inr, sym, ◌∙◌, refl, arith, subst}
use Rattle.std.proofs.lemmas.Bool.{false≢true, cases_eq, cases_lt}
use Rattle.sqlite_image.specs.Log.{IsEnd, IsThere}
use Rattle.sqlite_image.proofs.LogLemmas.{none_there}
use Rattle.sqlite_image.proofs.log.save_end.Goals as goal

pub loop-first-preserved : goal.loop-first-preserved
loop-first-preserved c =
    let at = c.loop-first.place.number in
    let first = c.args.first.number in (
      c.behind-next.ensures.place,
      refl,
      omega (arith, c.behind-next.ensures.next, c.loop-first.invariant.2),
      λ i low end. elim (cases_eq i at) [
        | inl here ↦ false≢true (sym c.if-is_end.false
            ∙ c.is_end.ensures.1 (subst (λ (x : ℕ). IsEnd c.args.size c.args.log.now first x) here end))
        | inr other ↦ c.loop-first.invariant.3 i (omega (arith, c.behind-next.ensures.next)) end
      ],
    )

pub returns : goal.returns
returns c i end =
    let at = c.loop-first.place.number in
    let gone = λ (there : IsThere c.args.size c.args.log.now c.loop-first.place.number).
    false≢true (sym c.loop-first-test.false ∙ c.is_there.ensures.1 there) in
    elim (cases_lt i at) [
      | inl low ↦ c.loop-first.invariant.3 i low end
      | inr high ↦ none_there c.args.size c.args.log.now at i gone high end.there
    ]
