use Rattle.std.proofs.Common.{◌≡◌, ◌≤◌, ◌+◌, ◌*◌, ◌++◌, ℕ, List, [], length, take}
use Rattle.bad_line.specs.Crossing.{Crosses}
use Rattle.bad_line.proofs.segments.cutter.Cutter.cross.Given as goal

-- the bytes so far came, and no segment ended
abbrev pub invariant-loop-place : goal.invariant-loop-place
invariant-loop-place l =
    record {
      crosses : (made : List ℕ) × (l.out.items ≡ l.initial.out.items ++ made)
          × Crosses l.initial.self l.self (take l.place l.bytes) made [];
      few : length l.out.items + 2 * length l.self.held
          ≤ length l.initial.out.items + 2 * length l.initial.self.held + 2 * l.place;
    }
