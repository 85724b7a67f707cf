use Rattle.std.proofs.Common.{◌≡◌, map, drop}
use Rattle.std.specs.Prelude.{slice_get}
use Rattle.uecp_link.specs.Server.{waiting_among}
use Rattle.uecp_link.specs.HeldMessages.{held_in}
use Rattle.uecp_link.proofs.held_message.counter_at.Given as goal

-- the counter is that far among the rest
abbrev pub invariant-loop-message : goal.invariant-loop-message
invariant-loop-message l = slice_get (map (λ w. w.0) (waiting_among (held_in (drop l.message-index l.held)))) l.older
    ≡ slice_get (map (λ w. w.0) (waiting_among (held_in l.held))) l.place
