use Rattle.std.proofs.Common.{◌≡◌, ◌+◌, ◌-◌, ◌^◌, ◌<◌, ◌≤◌, length, take}
use Rattle.std.specs.Io.KnownBytes.{Appends}
use Rattle.uecp_encoder.proofs.meter.Meter.write_whole.Given as goal

-- what was written so far is the front of the bytes, no write failed, and each took a byte at least
abbrev pub invariant-loop-at : goal.invariant-loop-at
invariant-loop-at g l = (l.at ≤ length l.bytes)
    × Appends (g.D.Write.contents l.fn.self.device) (g.D.Write.contents l.self.device) (take l.at l.bytes)
    × (l.self.failures ≡ l.fn.self.failures)
    × (l.self.empty ≡ l.fn.self.empty)
    × (l.fn.self.calls + length l.bytes < 2 ^ 128 → (l.fn.self.calls ≤ l.self.calls)
    × (l.self.calls ≤ l.fn.self.calls + l.at))

abbrev pub decreases-loop-at : goal.decreases-loop-at
decreases-loop-at g l = length l.bytes - l.at
