-- The connection of a device on the air, and one read of it; a reader has to believe it (profile).
use Rattle.std.specs.Prelude.{◌≡◌, ℕ, ◌+◌, ◌-◌, ◌^◌, ◌≤◌, ◌==◌, min, Bool, true, List, length, Option, Ok, Err}
use Rattle.std.specs.Io.KnownBytes.{Appends, Consumes}
use Rattle.uecp_encoder.specs.Target.{Step}
use Rattle.uecp_encoder.specs.State.{EncoderState}
use Rattle.uecp_encoder.specs.Answering.{responses_to}
use Rattle.uecp_encoder.specs.Serving.{replies_among}
use Rattle.uecp_encoder.specs.declared.serving.ServeFault.TheVariants.{ReadFailed, WriteFailed, TurnsSpent}
use Rattle.uecp_encoder.specs.declared.serving.KeptFault.TheVariants.{Serve, StateFailed}
use Rattle.uecp_encoder.specs.Keeping.{Kept}
use Rattle.uecp_encoder.specs.ServingWith.{Ended, ServesKept}
use Rattle.uecp_encoder.specs.declared.listener.Event.{Event}
use Rattle.uecp_encoder.specs.Telling.{HasHeard}
use Rattle.device_serving.specs.declared.air.line.Sent.{Sent}
use Rattle.device_serving.specs.declared.air.line.OpenLine.{OpenLine}

-- so many together, up to the greatest count
abbrev pub together : (a b : ℕ) → ℕ
together a b = min (a + b) (2 ^ 64 - 1)

-- What was sent once so many replies more were, of so many bytes.
abbrev pub sent_too : Sent → (replies bytes : ℕ) → Sent
sent_too sent replies bytes =
    record { replies = together sent.replies replies; bytes = together sent.bytes bytes }

-- A connection of which nothing was read, and to which so many reads are left.
abbrev pub unread : {I O : Type 0} → (turns : ℕ) → I → O → OpenLine I O
unread turns input output =
    record { input = input; output = output; left = turns; sent = record { replies = 0; bytes = 0 } }

-- How a whole connection ended whose last read ended so, where this was sent before it: with the replies of all, or
-- with the bytes that were written of all.
abbrev pub ended_over : Sent → Ended → Ended
ended_over sent (Ok served) = Ok (record served { replies = together sent.replies served.replies })
ended_over sent (Err (Serve ReadFailed)) = Err (Serve ReadFailed)
ended_over sent (Err (Serve (WriteFailed w))) = Err (Serve (WriteFailed (together sent.bytes w)))
ended_over sent (Err (Serve TurnsSpent)) = Err (Serve TurnsSpent)
ended_over sent (Err StateFailed) = Err StateFailed

-- Whether a connection is over after a read that ended so, where so many more are left to it: where its turn was spent
-- and no other fault came it goes on as long as some are.
abbrev pub is_over : (left : ℕ) → Ended → Bool
is_over left (Ok served) = true
is_over left (Err (Serve ReadFailed)) = true
is_over left (Err (Serve (WriteFailed w))) = true
is_over left (Err (Serve TurnsSpent)) = left == 0
is_over left (Err StateFailed) = true

-- One read of a connection: these bytes came, and these were sent for them, as `serve_with` says of one turn; the
-- listener was told of what was found in them. One read less is left; and where it goes on, what was sent was counted.
pub record ReadsOnce {V K L I O : Type 0} (most room : ℕ) (step : Step V) (leaves : K → Kept V → Type 0)
    (is_clean : K → Type 0) (saves fails : K → Kept V → K → Type 0) (hears : L → Event → Bool → L → Type 0)
    (remaining : I → Option (List ℕ)) (contents : O → Option (List ℕ)) (old new : EncoderState V) (keeper keeper' : K)
    (listener listener' : L) (line line' : OpenLine I O) (ended : Ended) : Type 0 where
  pub read : List ℕ
  pub sent : List ℕ
  pub consumed : Consumes (remaining line.input) (remaining line'.input) read
  pub appended : Appends (contents line.output) (contents line'.output) sent
  pub serves : ServesKept most room step leaves is_clean saves fails old new keeper keeper' read sent
      (remaining line'.input) 1 1 ended
  pub heard : HasHeard most hears step old new listener listener' read sent ended
  pub few_bytes : length read ≤ room
  pub left : line'.left ≡ line.left - 1
  pub counted : ended ≡ Err (Serve TurnsSpent)
      → line'.sent ≡ sent_too line.sent (replies_among (responses_to step old read)) (length sent)
