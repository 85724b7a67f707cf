use Rattle.std.proofs.Common.{◌≡◌, Some, None, if◌then◌else◌, ap, sym, ◌∙◌, get_or}
use Rattle.end_images.specs.Parsing.{pair_kept}
use Rattle.end_images.proofs.Pairs.{pairs_step}
use Rattle.end_images.proofs.encoder_parts.keep_pairs.Goals as goal

pub loop-rest-preserved : goal.loop-rest-preserved
loop-rest-preserved c =
    let rest = c.loop-rest.rest.now in
    let new = c.keep_pair.new.ring in
    let kept : Some new ≡ pair_kept c.loop-rest.ring (get_or rest 0 0) (get_or rest 1 0) =
    sym (ap (λ b. if b then Some new else None) c.if-not-keep_pair.false) ∙ c.keep_pair.ensures in
    pairs_step c.loop-rest.ring new rest c.in-len2-up.len_at_least kept ∙ c.loop-rest.invariant
