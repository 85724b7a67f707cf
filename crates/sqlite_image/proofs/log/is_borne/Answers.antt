use Rattle.std.proofs.Common.{inl, inr, sym, ◌∙◌}
use Rattle.std.proofs.lemmas.Bool.{false≢true, cases_lt}
use Rattle.sqlite_image.specs.Log.{IsThere}
use Rattle.sqlite_image.proofs.LogLemmas.{none_there}
use Rattle.sqlite_image.proofs.log.is_borne.Goals as goal

pub returns : goal.returns
returns c =
    let log = c.args.log.now in
    let next = c.loop-next.next.number in
    let gone = λ (there : IsThere c.args.size c.args.log.now c.loop-next.next.number).
    false≢true (sym c.loop-next-test.false ∙ c.is_there.ensures.1 there) in (
      λ no'. absurd (false≢true no'),
      λ (i, from, b). elim (cases_lt i next) [
        | inl low ↦ absurd (c.loop-next.invariant.2 i from low b)
        | inr high ↦ absurd (none_there c.args.size log next i gone high b.there)
      ],
    )
