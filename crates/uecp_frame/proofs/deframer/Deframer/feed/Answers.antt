use Rattle.std.proofs.Common.{◌≡◌, ◌∙◌, ap, sym, subst}
use Rattle.uecp_frame.specs.Feeding.{FeedsAfter}
use Rattle.uecp_frame.specs.OpenSegment.{part_of, found_ended, fed_ended}
use Rattle.uecp_frame.proofs.Taking.{feeds_after}
use Rattle.uecp_frame.proofs.deframer.Deframer.feed.Goals as goal

pub returns-clause-after : goal.returns-clause-after
returns-clause-after c = λ s same.
    let advanced = c.advance-advanced in
    let new = part_of advanced.new.self in
    let ended = advanced.result.ended in
    let plain = advanced.new.self.plain.items in
    let found : c.found_of.result ≡ found_ended ended plain =
    c.found_of.ensures ∙ ap (found_ended ended) c.as_slice.ensures.value in
    subst (λ f. FeedsAfter s c.args.piece.now (record { used = advanced.result.used; found = f }) new) (sym found)
    (feeds_after s c.args.piece.now (part_of c.self.inside.segment) (fed_ended advanced.result plain) new
    (same ∙ sym c.self.view_is) advanced.ensures.feeds)
