use Rattle.std.proofs.Common.{sym, subst, take, IfSome}
use Rattle.uecp_frame.specs.Beyond.{found_beyond}
use Rattle.uecp_frame.specs.Lent.{found_lent}
use Rattle.uecp_encoder.specs.Holdings.{with_part}
use Rattle.uecp_encoder.specs.Batches.{TellsOf, IsEventOf}
use Rattle.uecp_encoder.proofs.Feeding.{tells_of}
use Rattle.uecp_encoder.proofs.encoder.Encoder.hear_event.Goals as goal

pub returns-clause-tells : goal.returns-clause-tells
returns-clause-tells g c =
    let step = g.T.Target.step in
    let piece = c.args.piece.now in
    let used = c.feed_ref.result.used in
    let old = with_part c.self.inside.holdings c.self.inside.deframer in
    let here = found_lent c.feed_ref.result.found in
    let tells : TellsOf step old (found_beyond old.part (take used piece)) c.event_of.result =
    subst (λ xs. TellsOf step old xs c.event_of.result) (sym c.feed_ref.ensures.feeds.answer)
    (tells_of step old here c.take-outcome.result c.event_of.result (c.take-outcome.ensures.says c.self.inside.deframer)
    c.event_of.ensures.none
    (subst (λ a. IfSome c.event_of.result (λ told. IsEventOf a here c.take-outcome.result told))
    c.take-outcome.ensures.address c.event_of.ensures.some)) in
    subst (λ e. TellsOf step e (found_beyond e.part (take used piece)) c.event_of.result) c.self.view_is tells
