use Rattle.std.proofs.Common.{◌≡◌, ℕ, refl, ap, sym, ◌∙◌, arith, inl, inr, subst}
use Rattle.std.proofs.lemmas.Bool.{false≢true, cases_eq}
use Rattle.sqlite_wal.specs.Format.{be32, page_number}
use Rattle.sqlite_wal.specs.Recovery.{frame}
use Rattle.sqlite_image.proofs.LogLemmas.{there_before, page_in}
use Rattle.sqlite_image.proofs.log.is_newest.Goals as goal

pub number_at-page-requires : goal.number_at-page-requires
number_at-page-requires c =
    let there = there_before c.args.size c.args.log.now c.args.end c.args.place.number c.requires.end
    c.requires.before in
    omega (arith, there, c.requires.place.at_is)

pub behind-next-requires-clause-there : goal.behind-next-requires-clause-there
behind-next-requires-clause-there c =
    there_before c.args.size c.args.log.now c.args.end c.args.place.number c.requires.end c.requires.before

pub loop-next-init : goal.loop-next-init
loop-next-init c = (
  c.behind-next.ensures.place,
  omega (arith, c.behind-next.ensures.next),
  omega (arith, c.behind-next.ensures.next, c.requires.before),
  λ j a b. absurd (omega (arith, c.behind-next.ensures.next)),
)

pub number_at-requires : goal.number_at-requires
number_at-requires c =
    let there = there_before c.args.size c.args.log.now c.args.end c.loop-next.next.number c.requires.end
    c.loop-next-test.true in
    omega (arith, there, c.loop-next.invariant.0.at_is)

pub behind-next-requires-in-loop-next-clause-place : goal.behind-next-requires-in-loop-next-clause-place
behind-next-requires-in-loop-next-clause-place c = c.loop-next.invariant.0

pub behind-next-requires-in-loop-next-clause-there : goal.behind-next-requires-in-loop-next-clause-there
behind-next-requires-in-loop-next-clause-there c =
    there_before c.args.size c.args.log.now c.args.end c.loop-next.next.number c.requires.end c.loop-next-test.true

pub returns-then-number_at-page : goal.returns-then-number_at-page
returns-then-number_at-page c =
    let size = c.args.size in
    let log = c.args.log.now in
    let its = page_in size log c.loop-next.next.number ∙ ap (be32 log) (sym c.loop-next.invariant.0.at_is)
    ∙ sym c.number_at.ensures in
    let mine = c.number_at-page.ensures ∙ ap (be32 log) c.requires.place.at_is
    ∙ sym (page_in size log c.args.place.number) in (
      λ no'. absurd (false≢true no'),
      λ newest. absurd (newest c.loop-next.next.number c.loop-next.invariant.1 c.loop-next-test.true
          (its ∙ c.if-number_at-page.true ∙ mine)),
    )

pub loop-next-preserved : goal.loop-next-preserved
loop-next-preserved c =
    let size = c.args.size in
    let log = c.args.log.now in
    let its = page_in size log c.loop-next.next.number ∙ ap (be32 log) (sym c.loop-next.invariant.0.at_is)
    ∙ sym c.number_at.ensures in
    let mine = c.number_at-page.ensures ∙ ap (be32 log) c.requires.place.at_is
    ∙ sym (page_in size log c.args.place.number) in (
      c.behind-next-in-loop-next.ensures.place,
      omega (arith, c.behind-next-in-loop-next.ensures.next, c.loop-next.invariant.1),
      omega (arith, c.behind-next-in-loop-next.ensures.next, c.loop-next-test.true),
      λ j a b same. elim (cases_eq j c.loop-next.next.number) [
        | inl here ↦ c.if-number_at-page.false (sym its
            ∙ subst (λ (x : ℕ). page_number (frame size log x) ≡ page_number (frame size log c.args.place.number)) here
            same
            ∙ sym mine)
        | inr other ↦ c.loop-next.invariant.3 j a (omega (arith, c.behind-next-in-loop-next.ensures.next)) same
      ],
    )

pub returns : goal.returns
returns c = (
  λ _ j a b. c.loop-next.invariant.3 j a (omega (arith, c.loop-next-test.false)),
  λ _. refl,
)
