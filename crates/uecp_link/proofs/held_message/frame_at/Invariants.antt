use Rattle.std.proofs.Common.{◌≡◌, drop}
use Rattle.std.specs.Prelude.{slice_get}
use Rattle.uecp_link.specs.HeldMessages.{frames_among}
use Rattle.uecp_link.proofs.held_message.frame_at.Given as goal

-- the frame is that far among the rest
abbrev pub invariant-loop-message : goal.invariant-loop-message
invariant-loop-message l = slice_get (frames_among (drop l.message-index l.held)) l.before
    ≡ slice_get (frames_among l.held) l.place
