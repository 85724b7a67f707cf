use Rattle.std.proofs.Common.{◌≡◌, Ok, ap, refl, ◌∙◌}
use Rattle.line_feed.specs.Reading.{unread, ReadsNoMore, Looks}
use Rattle.line_batches.specs.declared.taking.After.TheVariants.{Ends}
use Rattle.send_commands.proofs.Stations.{station_lem}
use Rattle.send_commands.proofs.station.messages_of.Goals as goal

pub returns : goal.returns
returns g c =
    station_lem unread (λ f answer line f'. ReadsNoMore f f') (λ f there f'. Looks (λ _ _ _ _. Unit {0}) f there f')
    (λ f refusal kept f'. (kept ≡ Ok tt) × (f' ≡ f)) c.args.region _ _ _ _ _ _ c.in-Ok.ensures.left refl refl
    c.take_batch-after.ensures (c.in-Ends-Ok-2.is ∙ ap Ends (rw c.in-Ends-Ok-2.is at c.in-Ends-Ok-2.field-0-is))
    c.if-tally.false
