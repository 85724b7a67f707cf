-- What a line comes to by events, and what of it the server's end has no part in.
use Rattle.std.proofs.Common.{◌≡◌, ℕ, Bool, true, false, cond, List, [], ◌∷◌, ◌++◌, Option, Some, None, length, refl}
use Rattle.std.proofs.Common.{ap}
use Rattle.std.proofs.Common.{sym, subst, ◌∙◌, append_assoc, append-nil}
use Rattle.std.specs.Prelude.{is_none}
use Rattle.std.specs.List.{AllByRecursion}
use Rattle.uecp_elements.specs.declared.code.Code.{Code}
use Rattle.uecp_frame.specs.Findings.{Closed}
use Rattle.uecp_encoder.specs.Target.{Step, Taken}
use Rattle.uecp_encoder.specs.State.{EncoderState}
use Rattle.uecp_link.specs.Server.{ServerState}
use Rattle.uecp_link.specs.Once.{Event, Submit, FrameComes, ReplyComes, NoiseToEncoder, NoiseToServer, EncoderLost}
use Rattle.uecp_link.specs.Once.{ServerLost, EncoderRestart, ServerRestart, Take, Once, refusal_of, applied_once}
use Rattle.uecp_link.specs.Once.{is_next, delivered, delivery, after, answer_of, at_first}
use Rattle.uecp_link.specs.History.{Act, act_of, history}
use Rattle.uecp_link.specs.Law.{World, happens, run, start_from, Fits}
use Rattle.uecp_link.specs.Kept.{IsReady}
use Rattle.uecp_link.proofs.Public.{Lawful, lawful_run, lawful_from, with_member-true}
use Rattle.promises.specs.Station.{world_after}

-- ---- what a line comes to

-- These events lead there, with this history.
pub record Reached {V : Type 0} (step : Step V) (taken : Taken V) (e : EncoderState V) (w : World V) (acts : List Act)
    : Type 0 where
  pub events : List Event
  pub fits : AllByRecursion Fits events
  pub same : run step taken e.address (start_from e) events ≡ w
  pub acts_are : history step taken (at_first e.value) events ≡ acts

fits_push : (events : List Event) (event : Event) → AllByRecursion Fits events → Fits event
    → AllByRecursion Fits (events ++ event ∷ [])
fits_push [] event all one = (one, tt)
fits_push (x ∷ events) event all one = (all.0, fits_push events event all.1 one)

module _ {V : Type 0} (step : Step V) (taken : Taken V) (address : ℕ) where
  run-append : (w : World V) (xs ys : List Event)
      → run step taken address w (xs ++ ys) ≡ run step taken address (run step taken address w xs) ys
  run-append w [] ys = refl
  run-append w (x ∷ xs) ys = run-append (happens step taken address w x) xs ys

  happens_is : (w : World V) (event : Event) → is_none (refusal_of w.once event) ≡ true
      → happens step taken address w event ≡ world_after step taken address w event
  happens_is w event open_ = rw open_ refl

  -- what an event brings to a history that has come so far
  abbrev brings : World V → Event → List Act
  brings w event = act_of event (answer_of step taken w.once event)

  -- an event that is not refused after others
  abbrev IsPushed : World V → List Event → Event → Type 0
  IsPushed w events event =
      is_none (refusal_of (run step taken address w events).once event) ≡ true
      → history step taken w.once (events ++ event ∷ [])
      ≡ history step taken w.once events ++ brings (run step taken address w events) event

  pushed_on : (w w1 : World V) (brought : List Act) (events : List Event) (event : Event) (b : Bool)
      → IsPushed w1 events event → IsPushed w events event
      → is_none (refusal_of (run step taken address (cond b w1 w) events).once event) ≡ true
      → cond b (brought ++ history step taken w1.once (events ++ event ∷ []))
      (history step taken w.once (events ++ event ∷ []))
      ≡ cond b (brought ++ history step taken w1.once events) (history step taken w.once events)
      ++ brings (run step taken address (cond b w1 w) events) event
  pushed_on w w1 brought events event true first second open_ =
      ap (λ (h : List Act). brought ++ h) (first open_)
      ∙ sym (append_assoc brought (history step taken w1.once events) (brings (run step taken address w1 events) event))
  pushed_on w w1 brought events event false first second open_ = second open_

  history-push : (w : World V) (events : List Event) (event : Event) → IsPushed w events event
  history-push w [] event = λ open_. rw open_ (append-nil (brings w event))
  history-push w (x ∷ events) event =
      let w1 : World V = world_after step taken address w x in
      pushed_on w w1 (brings w x) events event (is_none (refusal_of w.once x)) (history-push w1 events event)
      (history-push w events event)

-- one event more
pub reached_on : {V : Type 0} (step : Step V) (taken : Taken V) (e : EncoderState V) (w : World V) (acts : List Act)
    (event : Event) → Fits event → is_none (refusal_of w.once event) ≡ true → Reached step taken e w acts
    → Reached step taken e (world_after step taken e.address w event)
    (acts ++ act_of event (answer_of step taken w.once event))
reached_on {V} step taken e w acts event fit open_ r =
    let came : World V = run step taken e.address (start_from e) r.events in
    let there : is_none (refusal_of came.once event) ≡ true =
    ap (λ (v : World V). is_none (refusal_of v.once event)) r.same ∙ open_ in
    record {
      events = r.events ++ event ∷ [];
      fits = fits_push r.events event r.fits fit;
      same = run-append step taken e.address (start_from e) r.events (event ∷ [])
          ∙ (ap (λ (v : World V). happens step taken e.address v event) r.same
          ∙ happens_is step taken e.address w event open_);
      acts_are = history-push step taken e.address (start_from e) r.events event there
          ∙ ap (λ (h : List Act). h ++ act_of event (answer_of step taken came.once event)) r.acts_are
          ∙ ap (λ (v : World V). acts ++ act_of event (answer_of step taken v.once event)) r.same;
    }

-- the same by another name
pub reached_as : {V : Type 0} (step : Step V) (taken : Taken V) (e : EncoderState V) (w w' : World V)
    (acts acts' : List Act) → w ≡ w' → acts ≡ acts' → Reached step taken e w acts → Reached step taken e w' acts'
reached_as step taken e w w' acts acts' w_is acts_is r =
    record { events = r.events; fits = r.fits; same = r.same ∙ w_is; acts_are = r.acts_are ∙ acts_is }

-- what holds of every line holds there
pub lawful_of : {V : Type 0} (step : Step V) (taken : Taken V) (e : EncoderState V) → IsReady e.ring → e.part ≡ Closed
    → (w : World V) (acts : List Act) → Reached step taken e w acts → Lawful step taken e.address e.value w acts
lawful_of step taken e ready shut w acts r =
    subst (λ (h : List Act). Lawful step taken e.address e.value w h) r.acts_are
    (subst (λ (v : World _). Lawful step taken e.address e.value v (history step taken (at_first e.value) r.events))
    r.same
    (lawful_run step taken e.address e.value (start_from e) [] r.events r.fits (lawful_from step taken e ready shut)))

-- ---- another server beside the same encoder

-- the once-machine with these numbers acknowledged, and this noise towards the server
abbrev pub beside : {V : Type 0} → Once V → (ℕ → Bool) → List ℕ → Once V
beside o acknowledged noise = record o { acknowledged = acknowledged; to_server = noise }

-- the line with this server, for which these numbers are acknowledged
abbrev pub with_server : {V : Type 0} → World V → ServerState → (ℕ → Bool) → List ℕ → World V
with_server w server acknowledged noise = record {
  encoder = w.encoder;
  server = server;
  once = beside w.once acknowledged noise;
}

-- the event is at the encoder's end
abbrev pub OfEncoder : Event → Type 0
OfEncoder (FrameComes k) = Unit {0}
OfEncoder (NoiseToEncoder x) = Unit {0}
OfEncoder EncoderLost = Unit {0}
OfEncoder EncoderRestart = Unit {0}
OfEncoder Take = Unit {0}
OfEncoder _ = ⊥

-- it is heard, or lost, at the server's
abbrev pub OfServer : Event → Type 0
OfServer (ReplyComes k) = Unit {0}
OfServer (NoiseToServer x) = Unit {0}
OfServer ServerLost = Unit {0}
OfServer ServerRestart = Unit {0}
OfServer _ = ⊥

module _ {V : Type 0} (step : Step V) (taken : Taken V) (address : ℕ) (acknowledged : ℕ → Bool) (noise : List ℕ) where
  delivered_beside : (o : Once V) (k : ℕ) (code : Option Code)
      → delivered step (beside o acknowledged noise) k code ≡ beside (delivered step o k code) acknowledged noise
  delivered_beside o k (Some code) = refl
  delivered_beside o k None = go (is_next o.codes (length o.sent) k)
    where
      go : (next : Bool)
          → cond next (applied_once step (beside o acknowledged noise) k)
          (record (beside o acknowledged noise) { to_encoder = [] })
          ≡ beside (cond next (applied_once step o k) (record o { to_encoder = [] })) acknowledged noise
      go true = refl
      go false = refl

  -- an event at the encoder's end does the same to it, whatever server is beside it
  pub world_beside : (w : World V) (server : ServerState) (event : Event) → OfEncoder event
      → world_after step taken address (with_server w server acknowledged noise) event
      ≡ with_server (world_after step taken address w event) server acknowledged noise
  world_beside w server (Submit m) at = absurd at
  world_beside w server (FrameComes k) at =
      ap (λ (o : Once V). with_once (world_after step taken address w (FrameComes k)) server o)
      (delivered_beside w.once k (w.once.codes k))
    where
      with_once : World V → ServerState → Once V → World V
      with_once v s o = record { encoder = v.encoder; server = s; once = o }
  world_beside w server (ReplyComes k) at = absurd at
  world_beside w server (NoiseToEncoder x) at = refl
  world_beside w server (NoiseToServer x) at = absurd at
  world_beside w server EncoderLost at = refl
  world_beside w server ServerLost at = absurd at
  world_beside w server EncoderRestart at = refl
  world_beside w server ServerRestart at = absurd at
  world_beside w server Take at = refl

  -- and it is refused for the same reasons
  pub refused_beside : (o : Once V) (event : Event) → OfEncoder event
      → refusal_of (beside o acknowledged noise) event ≡ refusal_of o event
  refused_beside o (Submit m) at = absurd at
  refused_beside o (FrameComes k) at = refl
  refused_beside o (ReplyComes k) at = absurd at
  refused_beside o (NoiseToEncoder x) at = refl
  refused_beside o (NoiseToServer x) at = absurd at
  refused_beside o EncoderLost at = refl
  refused_beside o ServerLost at = absurd at
  refused_beside o EncoderRestart at = refl
  refused_beside o ServerRestart at = absurd at
  refused_beside o Take at = refl

  delivery_beside : (o : Once V) (k : ℕ) (code : Option Code)
      → delivery step (beside o acknowledged noise) k code ≡ delivery step o k code
  delivery_beside o k (Some code) = refl
  delivery_beside o k None = refl

  -- and it brings the same
  pub brought_beside : (o : Once V) (event : Event) → OfEncoder event
      → act_of event (answer_of step taken (beside o acknowledged noise) event)
      ≡ act_of event (answer_of step taken o event)
  brought_beside o (Submit m) at = absurd at
  brought_beside o (FrameComes k) at = ap (act_of (FrameComes k)) (delivery_beside o k (o.codes k))
  brought_beside o (ReplyComes k) at = absurd at
  brought_beside o (NoiseToEncoder x) at = refl
  brought_beside o (NoiseToServer x) at = absurd at
  brought_beside o EncoderLost at = refl
  brought_beside o ServerLost at = absurd at
  brought_beside o EncoderRestart at = refl
  brought_beside o ServerRestart at = absurd at
  brought_beside o Take at = refl

-- what of the once-machine an event at the encoder's end leaves
pub record Leaves {V : Type 0} (o o' : Once V) : Type 0 where
  pub sent : o'.sent ≡ o.sent
  pub acknowledged : o'.acknowledged ≡ o.acknowledged

delivered_leaves : {V : Type 0} (step : Step V) (o : Once V) (k : ℕ) (code : Option Code)
    → Leaves o (delivered step o k code)
delivered_leaves step o k (Some code) = record { sent = refl; acknowledged = refl }
delivered_leaves {V} step o k None = go (is_next o.codes (length o.sent) k)
  where
    go : (next : Bool) → Leaves {V = V} o (cond next (applied_once step o k) (record o { to_encoder = [] }))
    go true = record { sent = refl; acknowledged = refl }
    go false = record { sent = refl; acknowledged = refl }

pub encoder_leaves : {V : Type 0} (step : Step V) (taken : Taken V) (o : Once V) (event : Event) → OfEncoder event
    → Leaves o (after step taken o event)
encoder_leaves step taken o (Submit m) at = absurd at
encoder_leaves step taken o (FrameComes k) at = delivered_leaves step o k (o.codes k)
encoder_leaves step taken o (ReplyComes k) at = absurd at
encoder_leaves step taken o (NoiseToEncoder x) at = record { sent = refl; acknowledged = refl }
encoder_leaves step taken o (NoiseToServer x) at = absurd at
encoder_leaves step taken o EncoderLost at = record { sent = refl; acknowledged = refl }
encoder_leaves step taken o ServerLost at = absurd at
encoder_leaves step taken o EncoderRestart at = record { sent = refl; acknowledged = refl }
encoder_leaves step taken o ServerRestart at = absurd at
encoder_leaves step taken o Take at = record { sent = refl; acknowledged = refl }

-- what an event at the server's end leaves: all but the server, and what is acknowledged and the noise towards it
pub server_leaves : {V : Type 0} (step : Step V) (taken : Taken V) (address : ℕ) (w : World V) (server : ServerState)
    (acknowledged : ℕ → Bool) (noise : List ℕ) (event : Event) → OfServer event
    → with_server (world_after step taken address w event) server acknowledged noise
    ≡ with_server w server acknowledged noise
server_leaves step taken address w server acknowledged noise (Submit m) at = absurd at
server_leaves step taken address w server acknowledged noise (FrameComes k) at = absurd at
server_leaves step taken address w server acknowledged noise (ReplyComes k) at = refl
server_leaves step taken address w server acknowledged noise (NoiseToEncoder x) at = absurd at
server_leaves step taken address w server acknowledged noise (NoiseToServer x) at = refl
server_leaves step taken address w server acknowledged noise EncoderLost at = absurd at
server_leaves step taken address w server acknowledged noise ServerLost at = refl
server_leaves step taken address w server acknowledged noise EncoderRestart at = absurd at
server_leaves step taken address w server acknowledged noise ServerRestart at = refl
server_leaves step taken address w server acknowledged noise Take at = absurd at

-- what is acknowledged stays so
pub stays_acknowledged : {V : Type 0} (step : Step V) (taken : Taken V) (o : Once V) (event : Event) → OfServer event
    → (k : ℕ) → o.acknowledged k ≡ true → (after step taken o event).acknowledged k ≡ true
stays_acknowledged step taken o (Submit m) at k h = absurd at
stays_acknowledged step taken o (FrameComes j) at k h = absurd at
stays_acknowledged step taken o (ReplyComes j) at k h = with_member-true o.acknowledged j k h
stays_acknowledged step taken o (NoiseToEncoder x) at k h = absurd at
stays_acknowledged step taken o (NoiseToServer x) at k h = h
stays_acknowledged step taken o EncoderLost at k h = absurd at
stays_acknowledged step taken o ServerLost at k h = h
stays_acknowledged step taken o EncoderRestart at k h = absurd at
stays_acknowledged step taken o ServerRestart at k h = h
stays_acknowledged step taken o Take at k h = absurd at

-- and nothing is brought
pub server_brings : {V : Type 0} (step : Step V) (taken : Taken V) (o : Once V) (event : Event) → OfServer event
    → act_of event (answer_of step taken o event) ≡ []
server_brings step taken o (Submit m) at = absurd at
server_brings step taken o (FrameComes k) at = absurd at
server_brings step taken o (ReplyComes k) at = refl
server_brings step taken o (NoiseToEncoder x) at = absurd at
server_brings step taken o (NoiseToServer x) at = refl
server_brings step taken o EncoderLost at = absurd at
server_brings step taken o ServerLost at = refl
server_brings step taken o EncoderRestart at = absurd at
server_brings step taken o ServerRestart at = refl
server_brings step taken o Take at = absurd at
