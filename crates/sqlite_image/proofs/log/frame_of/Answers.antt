use Rattle.std.proofs.Common.{refl, ap, ◌∙◌, ℕ, ◌+◌}
use Rattle.sqlite_wal.specs.Format.{part}
use Rattle.sqlite_image.proofs.LogLemmas.{part_at}
use Rattle.sqlite_image.proofs.log.frame_of.Goals as goal

pub returns-clause-value : goal.returns-clause-value
returns-clause-value c =
    part_at c.args.log.now c.args.place.at (c.args.place.at + (24 + c.args.size)) (24 + c.args.size) refl
    ∙ ap (λ (x : ℕ). part c.args.log.now x (24 + c.args.size)) c.requires.place.at_is
