use Rattle.std.proofs.Common.{◌≡◌, ℕ, ◌-◌, ◌≤◌, ◌<◌, List, length, take}
use Rattle.std.specs.Io.KnownBytes.{Appends}
use Rattle.uecp_encoder.specs.Telling.{HearsFor}
use Rattle.uecp_encoder.specs.Batches.{Takes}
use Rattle.uecp_encoder.proofs.answering.take_piece.Given as goal

-- what was taken so far, what was written for it, and what was told of it; no batch ended but by being full, unless the
-- piece is used up
abbrev pub invariant-loop-at : goal.invariant-loop-at
invariant-loop-at g l = (written : List ℕ) × (reads : ℕ)
    × (l.at ≤ length l.piece)
    × Appends (g.W.Write.contents l.fn.writer.device) (g.W.Write.contents l.writer.device) written
    × Takes g.K.BatchLimits.TOGETHER_MAX g.T.Target.step g.K.Keep.leaves g.K.Keep.is_clean
    g.K.Keep.saves l.fn.encoder l.encoder l.fn.keeper l.keeper (take l.at l.piece) written reads l.sent.replies
    l.sent.bytes
    × (l.writer.failures ≡ l.fn.writer.failures)
    × HearsFor g.L.Listener.hears g.T.Target.step l.fn.encoder (take l.at l.piece) l.fn.listener l.listener
    × (reads ≤ 1)
    × (l.at < length l.piece → reads ≡ 0)

abbrev pub decreases-loop-at : goal.decreases-loop-at
decreases-loop-at g l = length l.piece - l.at
