use Rattle.std.proofs.Common.{◌≡◌, ℕ, ◌-◌, ◌≤◌, ◌<◌, length, take}
use Rattle.uecp_frame.specs.Beyond.{found_beyond}
use Rattle.uecp_encoder.specs.State.{fed}
use Rattle.uecp_encoder.specs.Batches.{IsBatch}
use Rattle.uecp_encoder.proofs.batch.take_batch.Given as goal

-- what was taken so far is in the batch, which was not full before
abbrev pub invariant-loop-at : goal.invariant-loop-at
invariant-loop-at g l = (l.at ≤ length l.piece)
    × (l.encoder ≡ fed g.T.Target.step l.fn.encoder (take l.at l.piece))
    × IsBatch l.listens g.T.Target.step l.fn.encoder (take l.at l.piece) l.batch
    × (l.batch.found ≤ l.most)
    × ((k : ℕ) → k < l.at → length (found_beyond l.fn.encoder.part (take k l.piece)) < l.most)

abbrev pub decreases-loop-at : goal.decreases-loop-at
decreases-loop-at g l = length l.piece - l.at
