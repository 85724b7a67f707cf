-- The two ends, fed an event's bytes, beside the once-machine, and the law that ties them; a reader has to believe it.
-- Source: profile; RDS Forum SPB 490, sequence counter, for the range of counters.
use Rattle.std.specs.Prelude.{ℕ, ◌≡◌, ◌+◌, ◌<◌, ◌≤◌, nat_lt, true, ◌==◌, List, [], ◌∷◌, length, map, slice_get, Option}
use Rattle.std.specs.Prelude.{Some, None, is_some, is_none, if◌then◌else◌}
use Rattle.uecp_elements.specs.declared.code.Code.{Code}
use Rattle.uecp_frame.specs.declared.frame.Frame.{Frame}
use Rattle.uecp_frame.specs.Frame.{spelling}
use Rattle.uecp_frame.specs.Findings.{Closed}
use Rattle.reply_ring.specs.Ring.{kept_code}
use Rattle.uecp_encoder.specs.Target.{Step, Taken}
use Rattle.uecp_encoder.specs.State.{EncoderState, opening, restarted, fed}
use Rattle.uecp_encoder.specs.Answering.{Response, reply_of, responses_to}
use Rattle.uecp_encoder.specs.Laws.{fresh_in}
use Rattle.uecp_link.specs.Counters.{counter_of, is_recent}
use Rattle.uecp_link.specs.Frames.{frame_under}
use Rattle.uecp_link.specs.Server.{ServerState, idle_at, restarted_server, submitted, waiting, heard}
use Rattle.uecp_link.specs.Once.{Event, Submit, FrameComes, ReplyComes, NoiseToEncoder, NoiseToServer, EncoderLost}
use Rattle.uecp_link.specs.Once.{ServerLost, EncoderRestart, ServerRestart, Take, Once, message_at, missing}
use Rattle.uecp_link.specs.Once.{refusal_of, after, at_first}
use Rattle.uecp_link.specs.History.{Act, messages_in, numbers_below, history}
use Rattle.uecp_link.specs.Fold.{value_after, codes_after}

-- The frame of a number: its message under its counter, to the encoder's address.
abbrev pub frame_of : {V : Type 0} → ℕ → Once V → ℕ → Frame
frame_of address o k = frame_under address (counter_of k, message_at o.sent k)

-- The encoder's reply to a number, by its code; there is none to a number that was not applied.
abbrev pub reply_bytes : ℕ → ℕ → Option Code → List ℕ
reply_bytes address k (Some code) = spelling (reply_of address (counter_of k) code)
reply_bytes address k None = []

-- The encoder after an event that is not refused: it is fed the frame of the number, or the noise, or it forgets what
-- is open, or starts again from what it kept, or a group is taken from its target; all else does not touch it.
abbrev pub encoder_after : {V : Type 0} → Step V → Taken V → ℕ → Once V → EncoderState V → Event → EncoderState V
encoder_after step taken address o e (Submit m) = e
encoder_after step taken address o e (FrameComes k) = fed step e (spelling (frame_of address o k))
encoder_after step taken address o e (ReplyComes k) = e
encoder_after step taken address o e (NoiseToEncoder x) = fed step e x
encoder_after step taken address o e (NoiseToServer x) = e
encoder_after step taken address o e EncoderLost = record e { part = Closed }
encoder_after step taken address o e ServerLost = e
encoder_after step taken address o e EncoderRestart = restarted e
encoder_after step taken address o e ServerRestart = e
encoder_after step taken address o e Take = record e { value = (taken e.value).0 }

-- The server after an event that is not refused: it takes the message, hears the reply or the noise, or forgets what is
-- open, or starts again from what it kept; all else does not touch it.
abbrev pub server_after : {V : Type 0} → ℕ → Once V → ServerState → Event → ServerState
server_after address o s (Submit m) = submitted s m
server_after address o s (FrameComes k) = s
server_after address o s (ReplyComes k) = heard s (reply_bytes address k (o.codes k))
server_after address o s (NoiseToEncoder x) = s
server_after address o s (NoiseToServer x) = heard s x
server_after address o s EncoderLost = s
server_after address o s ServerLost = record s { part = Closed }
server_after address o s EncoderRestart = s
server_after address o s ServerRestart = restarted_server s
server_after address o s Take = s

-- The two ends and the once-machine, side by side.
pub record World (V : Type 0) : Type 0 where
  pub encoder : EncoderState V
  pub server : ServerState
  pub once : Once V

-- One event happens to all three, or to none where the once-machine refuses it.
abbrev pub happens : {V : Type 0} → Step V → Taken V → ℕ → World V → Event → World V
happens step taken address w event =
    if is_none (refusal_of w.once event)
    then record {
      encoder = encoder_after step taken address w.once w.encoder event;
      server = server_after address w.once w.server event;
      once = after step taken w.once event;
    }
    else w

-- Events happen in turn.
abbrev pub run : {V : Type 0} → Step V → Taken V → ℕ → World V → List Event → World V
run step taken address w [] = w
run step taken address w (event ∷ events) = run step taken address (happens step taken address w event) events

-- This encoder, and a new server for it and a new once-machine.
abbrev pub start_from : {V : Type 0} → EncoderState V → World V
start_from e = record { encoder = e; server = idle_at e.address; once = at_first e.value }

-- Two new ends and a new once-machine.
abbrev pub start : {V : Type 0} → ℕ → V → World V
start address value = start_from (opening address value)

-- A message that is submitted fits a frame: it has at most 255 bytes.
abbrev pub Fits : Event → Type 0
Fits (Submit m) = length m ≤ 255
Fits _ = Unit {0}

-- How many messages an encoder applied that answers so.
abbrev pub fresh_among : List Response → ℕ
fresh_among [] = 0
fresh_among (r ∷ rs) = fresh_in r + fresh_among rs

-- The law of numbers, where p is how many messages were applied. Of the target it asks nothing but that it answers each
-- message.
pub record Numbers {V : Type 0} (step : Step V) (address : ℕ) (w : World V) (p : ℕ) : Type 0 where
  -- the applied numbers are those below p, which are all that were sent but the last eight at most
  pub applied : (k : ℕ) → is_some (w.once.codes k) ≡ nat_lt k p
  pub all_but_eight : (p ≤ length w.once.sent) × (length w.once.sent ≤ p + 8)
  pub acknowledged : (k : ℕ) → w.once.acknowledged k ≡ true → k < p
  -- what waits at the server is what was sent and is not acknowledged, under its counters
  pub outstanding : waiting w.server ≡ map (λ k. (counter_of k, message_at w.once.sent k))
      (missing w.once.acknowledged (length w.once.sent))
  -- fed the frame of a recent number, the encoder applies one message where that number is the next, the least not
  -- applied, and none else
  pub fresh : (k : ℕ) → k < length w.once.sent → is_recent (length w.once.sent) k ≡ true →
      fresh_among (responses_to step w.encoder (spelling (frame_of address w.once k))) ≡ (if k == p then 1 else 0)
  -- and what it keeps for the counter of a recent number is that number's code, or nothing where it was not applied
  pub replies : (k : ℕ) → k < length w.once.sent → is_recent (length w.once.sent) k ≡ true
      → kept_code w.encoder.ring (counter_of k) ≡ w.once.codes k

-- The law of values, resting on that of numbers. The messages of the history are the first p, each once and in order;
-- the encoder's target holds what the history makes, and so does the once-machine, and the codes of its messages are
-- the codes that the numbers have.
pub record Values {V : Type 0} (step : Step V) (taken : Taken V) (opening : V) (w : World V) (p : ℕ)
    (acts : List Act) : Type 0 where
  pub order : messages_in acts ≡ numbers_below p
  pub target : w.encoder.value ≡ value_after step taken w.once.sent opening acts
  pub value : w.once.value ≡ value_after step taken w.once.sent opening acts
  pub codes : (k : ℕ) → w.once.codes k ≡ slice_get (codes_after step taken w.once.sent opening acts) k

-- The law: over every list of events both hold, with one p, and with the history of the once-machine over these events.
abbrev pub Law : {V : Type 0} → Step V → Taken V → ℕ → V → List Event → Type 0
Law step taken address opening events =
    let w = run step taken address (start address opening) events in
    (p : ℕ) × Numbers step address w p × Values step taken opening w p (history step taken (at_first opening) events)

-- The same from an encoder that is there.
abbrev pub LawFrom : {V : Type 0} → Step V → Taken V → EncoderState V → List Event → Type 0
LawFrom step taken e events =
    let w = run step taken e.address (start_from e) events in
    (p : ℕ) × Numbers step e.address w p × Values step taken e.value w p (history step taken (at_first e.value) events)

-- A target that keeps all messages and answers any code, for stating the law of numbers alone.
abbrev pub all_kept : (List (List ℕ) → List ℕ → Code) → Step (List (List ℕ))
all_kept code v m = (m ∷ v, code v m)

-- The law of numbers alone: over every list of events, whatever the codes are, and whatever a take does.
abbrev pub NumbersLaw : (List (List ℕ) → List ℕ → Code) → Taken (List (List ℕ)) → ℕ → List Event → Type 0
NumbersLaw code taken address events = (p : ℕ) × Numbers (all_kept code) address
    (run (all_kept code) taken address (start address []) events) p
