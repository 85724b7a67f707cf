-- What a line that played any events has come to; a reader has to believe it. Source: profile.
use Rattle.std.specs.Prelude.{◌≡◌, ◌≤◌, ◌<◌, ◌+◌, ℕ, true, List, length, map}
use Rattle.uecp_frame.specs.Frame.{spelling}
use Rattle.uecp_encoder.specs.Target.{Step, Taken}
use Rattle.uecp_link.specs.Counters.{counter_of}
use Rattle.uecp_link.specs.Frames.{frame_under}
use Rattle.uecp_link.specs.Server.{frames_waiting}
use Rattle.uecp_link.specs.Once.{message_at, missing}
use Rattle.uecp_link.specs.History.{Act, messages_in, numbers_below}
use Rattle.uecp_link.specs.Fold.{value_after, codes_after}
use Rattle.uecp_link.specs.Holds.{LineState, is_acknowledged}

-- The encoder's store is what a prefix of the sent messages with the takes between makes, each applied once and in
-- order; every acknowledged message is in it with its one reply, and every missing one is still outstanding. `acts` is
-- the history of the line: the messages that were applied and the takes.
pub record IsHeadline {V : Type 0} (step : Step V) (taken : Taken V) (address : ℕ) (opening : V) (acts : List Act)
    (line : LineState V) : Type 0 where
  -- the messages of the history are the first of those that were sent, each once and in order; they are the applied
  -- ones
  pub order : messages_in acts ≡ numbers_below (length line.codes)
  -- the encoder's store is what they make, with the takes where they fell
  pub store : line.encoder.value ≡ value_after step taken line.sent opening acts
  -- each of them has its one code
  pub codes : line.codes ≡ codes_after step taken line.sent opening acts
  -- they are all that were sent but the last eight at most
  pub applied : (length line.codes ≤ length line.sent) × (length line.sent ≤ length line.codes + 8)
  -- every message that is acknowledged is among them
  pub acknowledged : (k : ℕ) → is_acknowledged line k ≡ true → k < length line.codes
  -- and every message that is not acknowledged, so every missing one too, is still outstanding: their frames are the
  -- ones that the server lends, in order
  pub outstanding : frames_waiting line.server ≡ map
      (λ k. spelling (frame_under address (counter_of k, message_at line.sent k)))
      (missing (is_acknowledged line) (length line.sent))
