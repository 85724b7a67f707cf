-- What one part of a call of `serve_with` does; no public clause cites this.
use Rattle.std.specs.Prelude.{◌≡◌, ◌⊎◌, ℕ, ◌+◌, ◌-◌, ◌*◌, ◌<◌, ◌≤◌, ◌==◌, nat_le, not, Bool, true, false, List, []}
use Rattle.std.specs.Prelude.{◌∷◌, length, take, Option, Some, None, Result, Ok, Err}
use Rattle.std.specs.Io.KnownBytes.{Appends}
use Rattle.uecp_frame.specs.declared.fed.Found.{Found}
use Rattle.uecp_frame.specs.Findings.{Finding}
use Rattle.uecp_frame.specs.Feeding.{findings_of}
use Rattle.uecp_frame.specs.Beyond.{found_beyond}
use Rattle.uecp_encoder.specs.declared.serving.KeptFault.{KeptFault}
use Rattle.uecp_encoder.specs.declared.serving.KeptFault.TheVariants.{Serve, StateFailed}
use Rattle.uecp_encoder.specs.declared.serving.ServeFault.TheVariants.{WriteFailed}
use Rattle.uecp_encoder.specs.declared.answering.Stop.{Stop}
use Rattle.uecp_encoder.specs.declared.answering.Stop.TheVariants as stop
use Rattle.uecp_encoder.specs.declared.batch.Batch.{Batch}
use Rattle.uecp_encoder.specs.declared.listener.Event.{Event}
use Rattle.uecp_encoder.specs.declared.outcome.Outcome.{Outcome}
use Rattle.uecp_encoder.specs.Outcomes.{said_of}
use Rattle.uecp_encoder.specs.Target.{Step}
use Rattle.uecp_encoder.specs.State.{EncoderState, after_finding, fed}
use Rattle.uecp_encoder.specs.Answering.{responses_to, answers, bytes_sent}
use Rattle.uecp_encoder.specs.Metered.{counted}
use Rattle.uecp_encoder.specs.Serving.{replies_among, Sends}
use Rattle.uecp_encoder.specs.Keeping.{Kept, kept_of, Settled, Outlives}
use Rattle.uecp_encoder.specs.ServingWith.{fresh_among, StopsAnswering, StopsSaving, SavesFor}
use Rattle.uecp_encoder.specs.Telling.{Tells, SaysCode, response_of, HearsFor, HearsUnsent}

-- ---- What is taken together.

-- The event tells of what was found, and of what it came to at an encoder of this address.
pub record IsEventOf (address : ℕ) (here : Found) (outcome : Outcome) (event : Event) : Type 0 where
  pub found : findings_of event.found ≡ findings_of here
  pub answer : said_of address outcome ≡ response_of event.answer ∷ []
  pub code : (x : Finding) → findings_of here ≡ x ∷ [] → SaysCode address x event.answer

-- Nothing was found, and nothing is told; or one thing was, and the event tells of it.
abbrev pub TellsOf : {V : Type 0} → Step V → EncoderState V → List Finding → Option Event → Type 0
TellsOf step e [] None = Unit {0}
TellsOf step e [] (Some event) = ⊥
TellsOf step e (x ∷ xs) None = ⊥
TellsOf step e (x ∷ xs) (Some event) = Tells step e x event × (xs ≡ [])

-- Each of these tells of one of these findings, in order, each from the state that the one before left.
abbrev pub TellsEach : {V : Type 0} → Step V → EncoderState V → List Finding → List (Option Event) → Type 0
TellsEach step e [] [] = Unit {0}
TellsEach step e [] (event ∷ events) = ⊥
TellsEach step e (x ∷ xs) [] = ⊥
TellsEach step e (x ∷ xs) (None ∷ events) = ⊥
TellsEach step e (x ∷ xs) (Some event ∷ events) =
    Tells step e x event × TellsEach step (after_finding step e x) xs events

-- The batch has what an encoder in this state answers to these bytes, and where somebody listens what is told of it.
pub record IsBatch {V : Type 0} (listens : Bool) (step : Step V) (e : EncoderState V) (bytes : List ℕ)
    (batch : Batch) : Type 0 where
  pub replies : batch.replies.items ≡ answers step e bytes
  pub count : batch.count ≡ replies_among (responses_to step e bytes)
  pub fresh : batch.fresh ≡ not (fresh_among (responses_to step e bytes) == 0)
  pub events : listens ≡ true → TellsEach step e (found_beyond e.part bytes) batch.events.items
  pub silent : listens ≡ false → batch.events.items ≡ []
  pub found : batch.found ≡ length (found_beyond e.part bytes)
  pub room : length batch.events.items ≤ batch.found
  pub short : length batch.replies.items ≤ 16 * batch.found
  pub few : batch.count ≤ batch.found
  pub slow : batch.found ≤ length bytes

-- ---- Where a part stops.

-- All of s was fed, and what had to be saved for it was.
pub record Keeps {V K : Type 0} (step : Step V) (leaves : K → Kept V → Type 0) (is_clean : K → Type 0)
    (e e' : EncoderState V) (k k' : K) (s : List ℕ) : Type 0 where
  pub settled : Settled (leaves k) e → is_clean k' → Settled (leaves k') e'
  pub clean : is_clean k' → is_clean k
  pub same : fresh_among (responses_to step e s) ≡ 0 → k' ≡ k

-- Some of s was fed, these bytes were written, and then a save failed.
pub record Breaks {V K : Type 0} (step : Step V) (leaves : K → Kept V → Type 0) (is_clean : K → Type 0)
    (e : EncoderState V) (k k' : K) (s sent : List ℕ) : Type 0 where
  pub outlives : Settled (leaves k) e → is_clean k' → (left : Kept V) → leaves k' left → Outlives step e s sent left
  pub clean : is_clean k' → is_clean k

-- All of s, of so many reads, was fed, answered and saved: so many replies, of so many bytes.
pub record Takes {V K : Type 0} (most : ℕ) (step : Step V) (leaves : K → Kept V → Type 0) (is_clean : K → Type 0)
    (saves : K → Kept V → K → Type 0) (e e' : EncoderState V) (k k' : K) (s sent : List ℕ)
    (reads replies bytes : ℕ) : Type 0 where
  pub sends : Sends step e e' s sent replies bytes
  pub keeps : Keeps step leaves is_clean e e' k k' s
  pub saved : SavesFor most saves step e s reads k k'

-- A save of the encoder failed, after those for what comes before this start in s.
abbrev pub SavesUpTo : {V K : Type 0} → (most : ℕ) → Step V → (saves fails : K → Kept V → K → Type 0)
    → (e e' : EncoderState V) → (k k' : K) → (s : List ℕ) → (reads start : ℕ) → Type 0
SavesUpTo {V} {K} most step saves fails e e' k k' s reads start =
    (before : K) × SavesFor most saves step e (take start s) reads k before × fails before (kept_of e') k'

-- A write failed, or a save did, for what was taken together from this start to this place of s.
abbrev pub StopsAt : {V K : Type 0} → (most : ℕ) → Step V → (leaves : K → Kept V → Type 0) → (is_clean : K → Type 0)
    → (saves fails : K → Kept V → K → Type 0) → (e e' : EncoderState V) → (k k' : K) → (s sent : List ℕ)
    → (reads start place : ℕ) → Stop → Type 0
StopsAt most step leaves is_clean saves fails e e' k k' s sent reads start place (stop.Write w) =
    StopsAnswering most step e e' s sent w start place × Keeps step leaves is_clean e e' k k' s
    × SavesFor most saves step e (take (place + 1) s) reads k k'
StopsAt most step leaves is_clean saves fails e e' k k' s sent reads start place stop.State =
    StopsSaving most step e e' s sent start place × Breaks step leaves is_clean e k k' s sent
    × SavesUpTo most step saves fails e e' k k' s reads start

-- What a listener was told where a write failed, or a save did, at this place of s.
abbrev pub HearsUntil : {V L : Type 0} → (hears : L → Event → Bool → L → Type 0) → Step V → EncoderState V
    → (s : List ℕ) → (start place : ℕ) → (l l' : L) → Stop → Type 0
HearsUntil hears step e s start place l l' (stop.Write w) = HearsUnsent hears step e s w start place l l'
HearsUntil hears step e s start place l l' stop.State = HearsFor hears step e (take start s) l l'

-- how many bytes of a call's part were written before it stopped, as far as it says
abbrev pub written_at : Stop → ℕ
written_at (stop.Write w) = w
written_at stop.State = 0

-- the same stop, counted from so many bytes before
abbrev pub stopped_after : (bytes : ℕ) → Stop → Stop
stopped_after bytes (stop.Write w) = stop.Write (bytes + w)
stopped_after bytes stop.State = stop.State

-- how a call ends that stopped so after writing so many bytes
abbrev pub fault_after : (bytes : ℕ) → Stop → KeptFault
fault_after bytes (stop.Write w) = Serve (WriteFailed (bytes + w))
fault_after bytes stop.State = StateFailed

-- the writer's failures after a part that ended so: one more where a write failed
abbrev pub failures_at : {A : Type 0} → Result A Stop → ℕ → ℕ
failures_at (Ok a) failures = failures
failures_at (Err (stop.Write w)) failures = counted failures
failures_at (Err stop.State) failures = failures

-- ---- What is done for a batch.

-- The encoder was saved where that was due, and else the keeper is as it was.
abbrev pub IsKeptIf : {V K : Type 0} → (leaves : K → Kept V → Type 0) → (is_clean : K → Type 0)
    → (saves : K → Kept V → K → Type 0) → EncoderState V → (due : Bool) → (k k' : K) → Type 0
IsKeptIf leaves is_clean saves e false k k' = k' ≡ k
IsKeptIf leaves is_clean saves e true k k' = (is_clean k' → Settled (leaves k') e) × saves k (kept_of e) k'

-- A save of the encoder was due, and failed.
abbrev pub IsNotKept : {V K : Type 0} → (leaves : K → Kept V → Type 0) → (is_clean : K → Type 0)
    → (fails : K → Kept V → K → Type 0) → EncoderState V → (due : Bool) → (k k' : K) → Type 0
IsNotKept leaves is_clean fails e false k k' = ⊥
IsNotKept {V} leaves is_clean fails e true k k' =
    (is_clean k' → (left : Kept V) → leaves k' left → leaves k left ⊎ (left ≡ kept_of e)) × fails k (kept_of e) k'

-- A listener was told of each of these, where so many bytes of their replies were written.
abbrev pub HeardEach : {L : Type 0} → (hears : L → Event → Bool → L → Type 0) → List (Option Event) → (written : ℕ)
    → (l l' : L) → Type 0
HeardEach hears [] written l l' = l' ≡ l
HeardEach hears (None ∷ events) written l l' = HeardEach hears events written l l'
HeardEach {L} hears (Some event ∷ events) written l l' =
    let reply : ℕ = length (bytes_sent (response_of event.answer)) in
    (between : L) × hears l event (nat_le reply written) between × HeardEach hears events (written - reply) between l'

-- A batch was saved where that was due, and then a write of its replies failed and that was told; or it could not be
-- saved, and nothing was written or told.
abbrev pub IsUnanswered : {V K L : Type 0} → (leaves : K → Kept V → Type 0) → (is_clean : K → Type 0)
    → (saves fails : K → Kept V → K → Type 0) → (hears : L → Event → Bool → L → Type 0) → EncoderState V → Batch
    → (held held' : Option (List ℕ)) → (k k' : K) → (l l' : L) → Stop → Type 0
IsUnanswered leaves is_clean saves fails hears e batch held held' k k' l l' (stop.Write w) =
    (w < length batch.replies.items) × Appends held held' (take w batch.replies.items)
    × IsKeptIf leaves is_clean saves e batch.fresh k k' × HeardEach hears batch.events.items w l l'
IsUnanswered leaves is_clean saves fails hears e batch held held' k k' l l' stop.State =
    Appends held held' [] × IsNotKept leaves is_clean fails e batch.fresh k k' × (l' ≡ l)
