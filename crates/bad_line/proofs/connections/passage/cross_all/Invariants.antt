use Rattle.std.proofs.Common.{◌≡◌, ◌<◌, ◌≤◌, ◌+◌, ◌-◌, ◌*◌, true, false, length}
use Rattle.bad_line.specs.Passages.{Takes}
use Rattle.bad_line.proofs.connections.passage.cross_all.Given as goal

-- so many of the bytes crossed
abbrev pub invariant-loop-used : goal.invariant-loop-used
invariant-loop-used g l = record {
  takes : Takes (record { cutting = l.initial.cutter; waiting = l.initial.out.items; is_broken = false })
      (record { cutting = l.cutter; waiting = l.out.items; is_broken = l.is_broken }) l.bytes l.used;
  few : length l.out.items + 2 * length l.cutter.held ≤ length l.initial.out.items + 2046 + 2 * l.used;
  some : l.is_broken ≡ true → 0 < l.used;
}

abbrev pub decreases-loop-used : goal.decreases-loop-used
decreases-loop-used g l = length l.bytes - l.used
