use Rattle.std.proofs.Common.{length}
use Rattle.rds_store.specs.Value.{Store}
use Rattle.end_images.specs.Reading.{IsOpenedStation}
use Rattle.end_images.specs.Parsing.{Tells}
use Rattle.end_images.proofs.encoder_parts.tell.Given as goal

-- what is left tells the same store, and it is still an opened station
abbrev pub invariant-loop-rest : goal.invariant-loop-rest
invariant-loop-rest l =
    ((after : Store) → Tells l.fn.store l.fn.messages after → Tells l.store l.rest after)
    × (IsOpenedStation l.fn.store → IsOpenedStation l.store)

abbrev pub decreases-loop-rest : goal.decreases-loop-rest
decreases-loop-rest l = length l.rest
