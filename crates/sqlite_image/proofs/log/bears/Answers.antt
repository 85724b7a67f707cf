use Rattle.std.proofs.Common.{◌≡◌, ◌+◌, ℕ, refl, ap, ap₂, sym, ◌∙◌, arith}
use Rattle.std.specs.Str.{bytes_eq}
use Rattle.std.proofs.lemmas.Slice.Eq.{bytes_eq-Decides}
use Rattle.sqlite_wal.specs.Format.{part}
use Rattle.sqlite_wal.specs.Recovery.{frame_at}
use Rattle.sqlite_image.proofs.LogLemmas.{part_at}
use Rattle.sqlite_image.proofs.log.bears.Goals as goal

pub returns-then-is_there : goal.returns-then-is_there
returns-then-is_there c =
    let log = c.args.log.now in
    let at = c.args.place.at in
    let end : at + 16 ≡ at + 8 + 8 = omega arith in
    let mine = part_at log (at + 8) (at + 16) 8 end
    ∙ ap (λ (x : ℕ). part log (x + 8) 8) c.requires.place.at_is in
    let its = part_at log 16 24 8 refl in
    let same = c.eq.ensures ∙ ap₂ bytes_eq mine its in
    let decides = bytes_eq-Decides (part log (frame_at c.args.size c.args.place.number + 8) 8) (part log 16 8) in (
      λ yes'. record { there = c.is_there.ensures.0 c.if-is_there.true; salt = decides.0 (sym same ∙ yes') },
      λ b. same ∙ decides.1 b.salt,
    )
