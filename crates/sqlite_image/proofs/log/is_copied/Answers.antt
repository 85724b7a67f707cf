use Rattle.std.proofs.Common.{◌≡◌, ℕ, refl, sym, ◌∙◌, arith, inl, inr, subst}
use Rattle.std.proofs.lemmas.Bool.{false≢true, cases_eq}
use Rattle.sqlite_wal.specs.Format.{content, page_number}
use Rattle.sqlite_wal.specs.Recovery.{frame, file_page}
use Rattle.sqlite_image.specs.Log.{IsNewest}
use Rattle.sqlite_image.proofs.LogLemmas.{frames_once}
use Rattle.sqlite_image.proofs.log.is_copied.Goals.{else-is_newest-via-then-is_newest+else-not-is_in_file}
use Rattle.sqlite_image.proofs.log.is_copied.Goals.{else-is_newest-via-else-is_newest}
use Rattle.sqlite_image.proofs.log.is_copied.Goals as goal

pub returns-then-not-is_in_file : goal.returns-then-not-is_in_file
returns-then-not-is_in_file c = (
  λ no'. absurd (false≢true no'),
  λ copied. absurd (false≢true (sym c.if-not-is_in_file.true
      ∙ c.is_in_file.ensures.1 (copied c.frames_end.result.0.number c.frames_end.ensures.frames
      c.loop-place.place.number c.loop-place-test.true (c.is_newest.ensures.0 c.if-is_newest.true)))),
)

pub loop-place-preserved : goal.loop-place-preserved
loop-place-preserved c =
    let size = c.args.size in
    let log = c.args.log.now in
    let db = c.args.db.now in
    let at = c.loop-place.place.number in
    let end = c.frames_end.result.0.number in (
      c.behind-place.ensures.place,
      omega (arith, c.behind-place.ensures.next, c.loop-place-test.true),
      λ i low newest. elim (cases_eq i at) [
        | inl here ↦ subst (λ (x : ℕ). content (frame size log x) ≡ file_page size db (page_number (frame size log x)))
            (sym here) (elim (c.else-is_newest.branch) [
              | else-is_newest-via-then-is_newest+else-not-is_in_file w ↦
                  w.is_in_file.ensures.0 w.if-not-is_in_file.false
              | else-is_newest-via-else-is_newest w ↦ absurd (false≢true (sym w.if-is_newest.false
                  ∙ c.is_newest.ensures.1 (subst (λ (x : ℕ). IsNewest size log end x) here newest)))
            ])
        | inr other ↦ c.loop-place.invariant.2 i (omega (arith, c.behind-place.ensures.next)) newest
      ],
    )

pub returns : goal.returns
returns c = (
  λ _ n frames i low newest.
      let size = c.args.size in
      let log = c.args.log.now in
      let same = frames_once size log n c.frames_end.result.0.number frames c.frames_end.ensures.frames in
      c.loop-place.invariant.2 i (omega (arith, same, c.loop-place-test.false))
      (subst (λ (x : ℕ). IsNewest size log x i) same newest),
  λ _. refl,
)
