use Rattle.std.proofs.Common.{subst, IsTrue}
use Rattle.std.proofs.lemmas.Bool.{false≢true}
use Rattle.end_images.proofs.encoder_parts.checked.Goals as goal

pub returns-else-branch-clause-complete : goal.returns-else-branch-clause-complete
returns-else-branch-clause-complete c =
    λ image. absurd (false≢true (subst IsTrue c.if-branch.false (c.in_ok-is_image.ensures.is.1 image)))
