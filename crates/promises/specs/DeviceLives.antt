-- An encoder over its days: connections, groups that go out, crashes and starts, each from what its file has; a reader
-- has to believe it. Source: profile.
use Rattle.std.specs.Prelude.{◌≡◌, ℕ, ◌==◌, List, [], ◌∷◌, ◌++◌, Option, Ok, Err, if◌then◌else◌}
use Rattle.std.specs.Io.{StartsWith}
use Rattle.uecp_frame.specs.Findings.{Finding, Closed}
use Rattle.uecp_frame.specs.Beyond.{found_beyond}
use Rattle.reply_ring.specs.Ring.{newest, keep}
use Rattle.uecp_encoder.specs.Target.{Step, Taken}
use Rattle.uecp_encoder.specs.State.{EncoderState, fed, after_finding}
use Rattle.uecp_encoder.specs.Answering.{response_to, answers}
use Rattle.uecp_encoder.specs.Laws.{fresh_in, Follow}
use Rattle.uecp_encoder.specs.Keeping.{Kept, Settled, kept_of, going_on, Outlives}
use Rattle.uecp_encoder.specs.ServingWith.{Ended, ServesKept}

-- What happens to an encoder. It reads from a connection, which brings these bytes, and these are sent on it; the
-- connection is over; the encoder crashes while it reads, or sends, and goes on from its file; a group is taken from
-- its target, and that is saved before it goes out; and it starts again, at another moment.
pub data DeviceEvent : Type 0 where
  Reads : (came sent : List ℕ) → DeviceEvent
  HangsUp : DeviceEvent
  Crashes : (came sent : List ℕ) → DeviceEvent
  TakesGroup : DeviceEvent
  StartsAgain : DeviceEvent

-- What is done to its target and its kept replies: a message is applied, which came under this counter; or a group is
-- taken.
pub data Deed : Type 0 where
  Applies : (counter : ℕ) → (message : List ℕ) → Deed
  TakesOne : Deed

-- The deed of a finding: the message of a frame to which the reply is fresh is applied.
abbrev pub deeds_in : {V : Type 0} → Step V → EncoderState V → Finding → List Deed
deeds_in step e (Ok f) = if fresh_in (response_to step e (Ok f)) == 1 then Applies f.counter f.message ∷ [] else []
deeds_in step e (Err fault) = []

-- those of findings, one after another
abbrev pub deeds_among : {V : Type 0} → Step V → EncoderState V → List Finding → List Deed
deeds_among step e [] = []
deeds_among step e (f ∷ fs) = deeds_in step e f ++ deeds_among step (after_finding step e f) fs

-- those of bytes that come
abbrev pub deeds_of : {V : Type 0} → Step V → EncoderState V → List ℕ → List Deed
deeds_of step e bytes = deeds_among step e (found_beyond e.part bytes)

-- ---- What deeds make.

-- What is kept of an encoder behind one: its store is what that makes of it, and the reply to a message that was
-- applied is kept under its counter.
abbrev pub after_deed : {V : Type 0} → Step V → Taken V → Kept V → Deed → Kept V
after_deed step taken k (Applies counter message) = record {
  value = (step k.value message).0;
  ring = keep k.ring counter (step k.value message).1;
}
after_deed step taken k TakesOne = record { value = (taken k.value).0; ring = k.ring }

-- one after another
abbrev pub after_deeds : {V : Type 0} → Step V → Taken V → Kept V → List Deed → Kept V
after_deeds step taken k [] = k
after_deeds step taken k (deed ∷ deeds) = after_deeds step taken (after_deed step taken k deed) deeds

-- the counters of the messages that were applied, in order
abbrev pub counters_of : List Deed → List ℕ
counters_of [] = []
counters_of (Applies counter message ∷ deeds) = counter ∷ counters_of deeds
counters_of (TakesOne ∷ deeds) = counters_of deeds

-- ---- The days of an encoder.

-- It took some first bytes of what came, and what was sent is a beginning of the replies to these.
pub record Serves {V : Type 0} (step : Step V) (e : EncoderState V) (came sent took : List ℕ) : Type 0 where
  pub beginning : StartsWith came took
  pub replied : StartsWith (answers step e took) sent

-- One event, with its deeds: those of the bytes that it took. Where it crashed the clause of `serve_with` says what
-- that left (`Outlives`), and it goes on from there.
abbrev pub Happens : {V : Type 0} → Step V → Taken V → DeviceEvent → (e : EncoderState V) → List Deed
    → (e' : EncoderState V) → Type 0
Happens step taken (Reads came sent) e deeds e' =
    (took : List ℕ) × Serves step e came sent took × (deeds ≡ deeds_of step e took) × (e' ≡ fed step e took)
Happens step taken HangsUp e deeds e' = (deeds ≡ []) × (e' ≡ record e { part = Closed })
Happens {V} step taken (Crashes came sent) e deeds e' =
    (left : Kept V) × (cut : Outlives step e came sent left) × (deeds ≡ deeds_of step e cut.taken)
    × (e' ≡ going_on e.address left)
Happens step taken TakesGroup e deeds e' =
    (deeds ≡ TakesOne ∷ []) × (e' ≡ record e { value = (taken e.value).0 })
Happens step taken StartsAgain e deeds e' = (deeds ≡ []) × (e' ≡ going_on e.address (kept_of e))

-- One after another, with all their deeds.
abbrev pub DeviceLives : {V : Type 0} → Step V → Taken V → List DeviceEvent → (e : EncoderState V) → List Deed
    → (e' : EncoderState V) → Type 0
DeviceLives step taken [] e deeds e' = (deeds ≡ []) × (e' ≡ e)
DeviceLives {V} step taken (event ∷ events) e deeds e' =
    (some : List Deed) × (more : List Deed) × (y : EncoderState V) × Happens step taken event e some y
    × DeviceLives step taken events y more e' × (deeds ≡ some ++ more)

-- ---- The laws.

-- Law: over any days, whatever crashes and starts there were, what is kept of the encoder is what the messages that it
-- applied and the groups that were taken make, one after another, and each of these messages has the next counter
-- behind the one before it. So none is applied twice, none out of its turn, and none is lost of which a byte of the
-- reply was sent.
pub record IsOneLife {V : Type 0} (step : Step V) (taken : Taken V) (e e' : EncoderState V) (deeds : List Deed) : Type 0
  where
    pub store : kept_of e' ≡ after_deeds step taken (kept_of e) deeds
    pub in_order : Follow (newest e.ring) (counters_of deeds)
    pub address : e'.address ≡ e.address

abbrev pub DaysAreOneLife : {V : Type 0} → Step V → Taken V → Type 0
DaysAreOneLife {V} step taken =
    (events : List DeviceEvent) (e e' : EncoderState V) (deeds : List Deed)
    → DeviceLives step taken events e deeds e' → IsOneLife step taken e e' deeds

-- Law: a call of `serve_with` is such a read, however it ended: of the encoder in memory. And where what was kept at
-- its start is the encoder, what a crash within it leaves is what such a crash does.
pub record ServesAsEvent {V K : Type 0} (step : Step V) (taken : Taken V) (leaves : K → Kept V → Type 0)
    (is_clean : K → Type 0) (e e' : EncoderState V) (k k' : K) (s sent : List ℕ) : Type 0 where
  pub read : (deeds : List Deed) × Happens step taken (Reads s sent) e deeds e'
  pub cut : Settled (leaves k) e → is_clean k' → (left : Kept V) → leaves k' left
      → (deeds : List Deed) × Happens step taken (Crashes s sent) e deeds (going_on e.address left)

abbrev pub CallsAreEvents : {V K : Type 0} → (most room : ℕ) → Step V → Taken V → (leaves : K → Kept V → Type 0)
    → (is_clean : K → Type 0) → (saves fails : K → Kept V → K → Type 0) → Type 0
CallsAreEvents {V} {K} most room step taken leaves is_clean saves fails =
    (e e' : EncoderState V) (k k' : K) (s sent : List ℕ) (unread : Option (List ℕ)) (turns reads : ℕ) (ended : Ended)
    → ServesKept most room step leaves is_clean saves fails e e' k k' s sent unread turns reads ended
    → ServesAsEvent step taken leaves is_clean e e' k k' s sent
