use Rattle.std.proofs.Common.{◌≡◌, take}
use Rattle.std.specs.List.{concat}
use Rattle.uecp_encoder.specs.State.{fed}
use Rattle.uecp_link.specs.Joining.{frames_behind}
use Rattle.uecp_link.proofs.replacement.give_pass.Given as goal

-- the frames up to this place were fed
abbrev pub invariant-loop-before : goal.invariant-loop-before
invariant-loop-before g l = l.encoder ≡ fed g.T.Target.step l.fn.encoder
    (concat (take l.before (frames_behind l.address 0)))
