use Rattle.std.proofs.Common.{ap}
use Rattle.reply_ring.proofs.Keeping.{new_kept}
use Rattle.reply_ring.proofs.ring.ReplyRing.new.Goals as goal

pub invariant_of-result : goal.invariant_of-result
invariant_of-result c = new_kept c.in_ok-counters.counters.capacity c.in_ok-counters.counters.items
    (ap (λ b. b.capacity) c.in_ok-counters.ensures) (ap (λ b. b.items) c.in_ok-counters.ensures)
