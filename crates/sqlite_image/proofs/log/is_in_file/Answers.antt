use Rattle.std.proofs.Common.{◌+◌, ◌-◌, ◌*◌, ◌<◌, ℕ, refl, ap, ap₂, sym, ◌∙◌, arith}
use Rattle.std.proofs.lemmas.Bool.{false≢true}
use Rattle.std.specs.Str.{bytes_eq}
use Rattle.std.proofs.lemmas.Slice.Eq.{bytes_eq-Decides}
use Rattle.sqlite_wal.specs.Format.{part}
use Rattle.sqlite_wal.specs.Recovery.{frame_at}
use Rattle.sqlite_image.proofs.LogLemmas.{part_at, content_in, length_content, page_said, positive_factor, said_within}
use Rattle.sqlite_image.proofs.log.is_in_file.Goals as goal

pub returns-then-from-db : goal.returns-then-from-db
returns-then-from-db c = (
  λ no'. absurd (false≢true no'),
  λ same.
      let said = page_said c.args.size c.args.log.now c.args.db.now c.args.place c.saturating_sub.result
      c.requires.place
      (c.saturating_sub.ensures ∙ ap (λ (x : ℕ). x - 1) c.number_at-page.ensures) in
      let past : 0 < c.saturating_sub.result * c.args.size = omega (arith, c.if-from-db.true) in
      let within = said_within c.args.db.now _ _ c.args.size (positive_factor c.saturating_sub.result c.args.size past)
      (length_content c.args.size c.args.log.now c.args.place.number c.requires.there) (same ∙ said) in
      absurd (omega (arith, within, c.if-from-db.true)),
)

pub returns-then-db-from : goal.returns-then-db-from
returns-then-db-from c = (
  λ no'. absurd (false≢true no'),
  λ same.
      let said = page_said c.args.size c.args.log.now c.args.db.now c.args.place c.saturating_sub.result
      c.requires.place
      (c.saturating_sub.ensures ∙ ap (λ (x : ℕ). x - 1) c.number_at-page.ensures) in
      let some : 0 < c.args.size = omega (arith, c.if-db-from.true) in
      let within = said_within c.args.db.now _ _ c.args.size some
      (length_content c.args.size c.args.log.now c.args.place.number c.requires.there) (same ∙ said) in
      absurd (omega (arith, within, c.if-db-from.true, c.if-from-db.false)),
)

pub returns : goal.returns
returns c =
    let log = c.args.log.now in
    let db = c.args.db.now in
    let size = c.args.size in
    let from : ℕ = c.saturating_sub.result * size in
    let said = page_said size log db c.args.place c.saturating_sub.result c.requires.place
    (c.saturating_sub.ensures ∙ ap (λ (x : ℕ). x - 1) c.number_at-page.ensures) in
    let body = content_in size log c.args.place.number c.requires.there in
    let mine = part_at db from (from + size) size refl in
    let its = part_at log (c.args.place.at + 24) (c.args.place.at + 24 + size) size refl
    ∙ ap (λ (x : ℕ). part log (x + 24) size) c.requires.place.at_is in
    let same = c.eq.ensures ∙ ap₂ bytes_eq mine its in
    let decides = bytes_eq-Decides (part db from size) (part log (frame_at size c.args.place.number + 24) size) in (
      λ yes'. body ∙ sym (decides.0 (sym same ∙ yes')) ∙ sym said,
      λ is. same ∙ decides.1 (sym said ∙ sym is ∙ body),
    )
