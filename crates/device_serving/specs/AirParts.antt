-- What one part of a run does; no public clause cites this.
use Rattle.std.specs.Prelude.{◌≡◌, ℕ, Bool, true, false, length, Option, Some, None}
use Rattle.rds_store.specs.Value.{Store}
use Rattle.uecp_frame.specs.Findings.{Closed}
use Rattle.uecp_encoder.specs.State.{EncoderState}
use Rattle.uecp_encoder.specs.declared.listener.Answered.{Answered}
use Rattle.uecp_encoder.specs.declared.listener.Answered.TheVariants.{New, Repeat, NotNext, Unnumbered, NotForMe}
use Rattle.uecp_encoder.specs.declared.listener.Answered.TheVariants.{Dropped}
use Rattle.device_serving.specs.Logging.{Log, LogsOpening}
use Rattle.device_serving.specs.declared.air.line.Sent.{Sent}
use Rattle.device_serving.specs.declared.air.line.OpenLine.{OpenLine}
use Rattle.device_serving.specs.AirLines.{sent_too, unread}

-- ---- What is counted.

-- What was sent, with an answer that was written whole.
abbrev pub sent_with : Sent → Answered → Sent
sent_with sent (New code reply) = sent_too sent 1 (length reply.items)
sent_with sent (Repeat code reply) = sent_too sent 1 (length reply.items)
sent_with sent NotNext = sent
sent_with sent Unnumbered = sent
sent_with sent NotForMe = sent
sent_with sent (Dropped fault) = sent

-- It is counted where it was written whole.
abbrev pub counts_with : Sent → Answered → (sent : Bool) → Sent
counts_with before answer true = sent_with before answer
counts_with before answer false = before

-- ---- A connection that came.

-- It is the one that is open now; or one is open, and it was given back.
abbrev pub Comes : {M I O : Type 0} → (closes : M → I → O → M → Type 0) → (turns : ℕ) → Option (OpenLine I O) → I → O
    → (e e' : EncoderState Store) → (l l' : Log) → (m m' : M) → Option (OpenLine I O) → Type 0
Comes closes turns None input output e e' l l' m m' line' =
    (e' ≡ record e { part = Closed }) × LogsOpening l l' × (m' ≡ m) × (line' ≡ Some (unread turns input output))
Comes closes turns (Some line) input output e e' l l' m m' line' =
    (e' ≡ e) × (l' ≡ l) × closes m input output m' × (line' ≡ Some line)
