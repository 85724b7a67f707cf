-- The line after an event by its own fields; for proofs alone, as the contracts of private functions. Source: profile.
use Rattle.std.specs.Prelude.{ℕ, ◌≡◌, Bool, true, false, is_none, List, [], ◌∷◌, ◌++◌, Option, Some, None, slice_get}
use Rattle.std.specs.Prelude.{length, if◌then◌else◌}
use Rattle.uecp_elements.specs.declared.code.Code.{Code}
use Rattle.uecp_frame.specs.Findings.{has_frame}
use Rattle.uecp_frame.specs.Beyond.{found_beyond}
use Rattle.uecp_encoder.specs.Target.{Step, Taken}
use Rattle.uecp_link.specs.declared.stepped.Stepped.{Stepped}
use Rattle.uecp_link.specs.declared.stepped.Stepped.TheVariants as stepped
use Rattle.uecp_link.specs.declared.refusal.LineRefusal.{LineRefusal}
use Rattle.uecp_link.specs.declared.refusal.LineRefusal.TheVariants as line_refusal
use Rattle.uecp_link.specs.Once.{Event, Submit, FrameComes, NoiseToEncoder, NoiseToServer, message_at, is_next}
use Rattle.uecp_link.specs.Once.{refusal_of, Answer, Noise, answer_of}
use Rattle.uecp_link.specs.Events.{answer_seen, Refuses}
use Rattle.uecp_link.specs.Law.{encoder_after, server_after}
use Rattle.uecp_link.specs.Holds.{LineState, once_of, IsLine}

-- The messages after an event.
abbrev pub sent_next : List (List ℕ) → Event → List (List ℕ)
sent_next sent (Submit m) = sent ++ m ∷ []
sent_next sent _ = sent

-- One code more, where the number had none and is the next.
abbrev pub codes_with : List Code → Option Code → (next : Bool) → Code → List Code
codes_with codes None next code = if next then codes ++ code ∷ [] else codes
codes_with codes (Some _) next code = codes

-- The codes after an event.
abbrev pub codes_next : {V : Type 0} → Step V → LineState V → Event → List Code
codes_next step line (FrameComes k) =
    codes_with line.codes (slice_get line.codes k) (is_next (slice_get line.codes) (length line.sent) k)
    (step line.encoder.value (message_at line.sent k)).1
codes_next step line _ = line.codes

-- The line after an event that is not refused.
abbrev pub line_next : {V : Type 0} → Step V → Taken V → LineState V → Event → LineState V
line_next step taken line event = record {
  encoder = encoder_after step taken line.encoder.address (once_of line) line.encoder event;
  server = server_after line.encoder.address (once_of line) line.server event;
  sent = sent_next line.sent event;
  codes = codes_next step line event;
}

-- The line's own tests let the event pass: for noise, that it brings no frame after what is open.
abbrev pub Passes : {V : Type 0} → LineState V → Event → Type 0
Passes line (NoiseToEncoder x) = has_frame (found_beyond line.encoder.part x) ≡ false
Passes line (NoiseToServer x) = has_frame (found_beyond line.server.part x) ≡ false
Passes line event = is_none (refusal_of (once_of line) event) ≡ true

-- The answer by the line's own fields: of earlier noise it has the open part alone.
abbrev pub line_answer : {V : Type 0} → Step V → Taken V → LineState V → Event → Answer
line_answer step taken line (NoiseToEncoder x) = Noise (length (found_beyond line.encoder.part x))
line_answer step taken line (NoiseToServer x) = Noise (length (found_beyond line.server.part x))
line_answer step taken line event = answer_of step taken (once_of line) event

-- Why the line refuses, by its own fields.
abbrev pub LineRefuses : {V : Type 0} → LineState V → Event → LineRefusal → Type 0
LineRefuses line (NoiseToEncoder x) refusal = (refusal ≡ line_refusal.HoldsAFrame)
    × (has_frame (found_beyond line.encoder.part x) ≡ true)
LineRefuses line (NoiseToServer x) refusal = (refusal ≡ line_refusal.HoldsAFrame)
    × (has_frame (found_beyond line.server.part x) ≡ true)
LineRefuses line event refusal = Refuses (once_of line) event refusal

-- The codes after a frame, by the reply to it: one more where that is fresh.
abbrev pub codes_by : List Code → Option (Bool × Code) → List Code
codes_by codes None = codes
codes_by codes (Some reply) = if reply.0 then codes ++ reply.1 ∷ [] else codes

-- The answer to a frame, by the reply to it.
abbrev pub delivered_by : Option (Bool × Code) → Stepped
delivered_by None = stepped.NotNext
delivered_by (Some reply) = stepped.Delivered reply.0 reply.1

-- The answer to a reply, by the acknowledgement in it.
abbrev pub stepped_by : Option Code → Stepped
stepped_by None = stepped.Stray
stepped_by (Some code) = stepped.Acknowledged code

-- What a call for one event owes where that goes through.
pub record Goes {V : Type 0} (step : Step V) (taken : Taken V) (old : LineState V) (event : Event) (stepped : Stepped)
    (new : LineState V) : Type 0 where
  pub line : IsLine old
  pub passes : Passes old event
  pub answer : answer_seen stepped ≡ line_answer step taken old event
  pub next : new ≡ line_next step taken old event

-- What it owes where the event is refused.
pub record Stops {V : Type 0} (old : LineState V) (event : Event) (refusal : LineRefusal) (new : LineState V) : Type
    0 where
  pub refuses : LineRefuses old event refusal
  pub unchanged : new ≡ old
