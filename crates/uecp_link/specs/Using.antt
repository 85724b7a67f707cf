-- What a line comes to on which nothing is lost any more; a reader has to believe it. Source: profile.
use Rattle.std.specs.Prelude.{◌≡◌, ℕ, List, [], ◌++◌, length, map}
use Rattle.uecp_encoder.specs.Target.{Step, Taken}
use Rattle.uecp_link.specs.Server.{waiting}
use Rattle.uecp_link.specs.Once.{Event, FrameComes, ReplyComes, missing}
use Rattle.uecp_link.specs.Law.{World, run, start}

-- The frame of each of these numbers comes once, in order, and then the reply to each.
abbrev pub all_come : List ℕ → List Event
all_come ks = map FrameComes ks ++ map ReplyComes ks

-- Nothing is outstanding: every message that was sent is acknowledged, and none waits at the server.
pub record IsDone {V : Type 0} (w : World V) : Type 0 where
  pub acknowledged : missing w.once.acknowledged (length w.once.sent) ≡ []
  pub idle : waiting w.server ≡ []

-- The world after any events, and then after the frame of each message that is outstanding has come once, and the reply
-- to each.
abbrev pub after_all_come : {V : Type 0} → Step V → Taken V → ℕ → V → List Event → World V
after_all_come step taken address opening events =
    let w = run step taken address (start address opening) events in
    run step taken address w (all_come (missing w.once.acknowledged (length w.once.sent)))
