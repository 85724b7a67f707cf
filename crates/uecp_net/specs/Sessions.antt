-- What an encoder does over one connection after another; a reader has to believe it. Source: profile.
use Rattle.std.specs.Prelude.{◌≡◌, ℕ, ◌*◌, ◌≤◌, Bool, List, [], ◌∷◌, length, Option, Some, Result}
use Rattle.std.specs.Io.KnownBytes.{Appends, Consumes}
use Rattle.uecp_frame.specs.Findings.{Closed}
use Rattle.uecp_encoder.specs.Target.{Step}
use Rattle.uecp_encoder.specs.State.{EncoderState}
use Rattle.uecp_encoder.specs.Metered.{Metered}
use Rattle.uecp_encoder.specs.Serving.{Serves, ReadsMade, read_failures, empty_reads, write_failures}
use Rattle.uecp_encoder.specs.declared.serving.Served.{Served}
use Rattle.uecp_encoder.specs.declared.serving.ServeFault.{ServeFault}
use Rattle.uecp_encoder.specs.declared.listener.Event.{Event}
use Rattle.uecp_encoder.specs.Keeping.{Kept}
use Rattle.uecp_encoder.specs.ServingWith.{Ended, ServesKept, KeptReadsMade, kept_read_failures, kept_empty_reads}
use Rattle.uecp_encoder.specs.ServingWith.{kept_write_failures}
use Rattle.uecp_encoder.specs.Telling.{HasHeard}

-- How one connection ended.
abbrev pub Outcome : Type 0
Outcome = Result Served ServeFault

-- One connection, from one state of the encoder to another: the open part was forgotten, and then `serve` was called
-- over the two ends, each in a meter that was not called before. These bytes came, and these were sent, as `serve` says
-- of them, and no more calls were made of either end than it says.
pub record Session {V I O : Type 0} (step : Step V) (remaining : I → Option (List ℕ)) (contents : O → Option (List ℕ))
    (turns : ℕ) (old new : EncoderState V) (input : I) (input' : Metered I) (output : O) (output' : Metered O)
    (outcome : Outcome) : Type 0 where
  pub read : List ℕ
  pub sent : List ℕ
  pub consumed : Consumes (remaining input) (remaining input'.device) read
  pub appended : Appends (contents output) (contents output'.device) sent
  pub serves : Serves step (record old { part = Closed }) new read sent (remaining input'.device) turns outcome
  pub few_bytes : length read ≤ 512 * turns
  pub reads : ReadsMade outcome turns input'.calls
  pub read_failures_are : input'.failures ≡ read_failures outcome 0
  pub empty_reads_are : input'.empty ≡ empty_reads outcome 0
  pub write_failures_are : output'.failures ≡ write_failures outcome 0

-- The next connection: it is opened, served, and given back as that left it.
abbrev pub Serving : {V C I O : Type 0} → Step V → (C → Option (I × O) → C → Type 0) → (C → I → O → C → Type 0)
    → (I → Option (List ℕ)) → (O → Option (List ℕ)) → (turns : ℕ) → EncoderState V → C → Outcome → EncoderState V → C
    → Type 0
Serving {V} {C} {I} {O} step opens closes remaining contents turns e c outcome e' c' =
    (input : I) × (input' : Metered I) × (output : O) × (output' : Metered O) × (between : C)
    × opens c (Some (input, output)) between × Session step remaining contents turns e e' input input' output output'
    outcome × closes between input'.device output'.device c'

-- One connection after another, each opened where the one before was done, and served from the state that the one
-- before left.
abbrev pub Sessions : {V C I O : Type 0} → Step V → (C → Option (I × O) → C → Type 0) → (C → I → O → C → Type 0)
    → (I → Option (List ℕ)) → (O → Option (List ℕ)) → (turns : ℕ) → EncoderState V → C → List Outcome → EncoderState V
    → C → Type 0
Sessions step opens closes remaining contents turns e c [] e' c' = (e' ≡ e) × (c' ≡ c)
Sessions {V} {C} {I} {O} step opens closes remaining contents turns e c (outcome ∷ outcomes) e' c' =
    (next : EncoderState V) × (after : C) × Serving step opens closes remaining contents turns e c outcome next after
    × Sessions step opens closes remaining contents turns next after outcomes e' c'

-- ---- With a state that is kept, and what is found told.

-- One connection, from one state of the encoder and of its keeper to another: the open part was forgotten, and then
-- `serve_with` was called over the two ends, each in a meter that was not called before. These bytes came, and these
-- were sent, as `serve_with` says of them, and no more calls were made of either end than it says.
pub record SessionKept {V K I O : Type 0} (most room : ℕ) (step : Step V) (leaves : K → Kept V → Type 0) (is_clean : K →
    Type 0) (saves fails : K → Kept V → K → Type 0) (remaining : I → Option (List ℕ)) (contents : O → Option (List ℕ))
    (turns : ℕ) (old new : EncoderState V)
    (keeper keeper' : K) (input : I) (input' : Metered I) (output : O) (output' : Metered O) (ended : Ended) : Type
    0 where
  pub read : List ℕ
  pub sent : List ℕ
  pub consumed : Consumes (remaining input) (remaining input'.device) read
  pub appended : Appends (contents output) (contents output'.device) sent
  pub serves : ServesKept most room step leaves is_clean saves fails (record old { part = Closed }) new keeper keeper'
      read sent (remaining input'.device) turns input'.calls ended
  pub few_bytes : length read ≤ room * turns
  pub reads : KeptReadsMade ended turns input'.calls
  pub read_failures_are : input'.failures ≡ kept_read_failures ended 0
  pub empty_reads_are : input'.empty ≡ kept_empty_reads ended 0
  pub write_failures_are : output'.failures ≡ kept_write_failures ended 0

-- The next connection: it is opened, served, and given back as that left it.
abbrev pub ServingKept : {V K C I O : Type 0} → (most room : ℕ) → Step V → (K → Kept V → Type 0) → (K → Type 0)
    → (saves fails : K → Kept V → K → Type 0) → (C → Option (I × O) → C → Type 0) → (C → I → O → C → Type 0)
    → (I → Option (List ℕ)) → (O → Option (List ℕ))
    → (turns : ℕ) → EncoderState V → K → C → Ended → EncoderState V → K → C → Type 0
ServingKept {V} {K} {C} {I} {O} most room step leaves is_clean saves fails opens closes remaining contents turns e k c
    ended e' k' c' =
    (input : I) × (input' : Metered I) × (output : O) × (output' : Metered O) × (between : C)
    × opens c (Some (input, output)) between
    × SessionKept most room step leaves is_clean saves fails remaining contents turns e e' k k' input input' output
    output' ended × closes between input'.device output'.device c'

-- One connection: it was served as with a state that is kept, and the listener was told that it was opened, and
-- then of what its bytes found, from an encoder in which nothing was open.
pub record SessionTold {V K L I O : Type 0} (most room : ℕ) (step : Step V) (leaves : K → Kept V → Type 0) (is_clean : K
    → Type 0) (saves fails : K → Kept V → K → Type 0) (begins : L → L → Type 0)
    (hears : L → Event → Bool → L → Type 0) (remaining : I → Option (List ℕ))
    (contents : O → Option (List ℕ)) (turns : ℕ) (old new : EncoderState V) (keeper keeper' : K)
    (listener listener' : L) (input : I) (input' : Metered I) (output : O) (output' : Metered O) (ended : Ended) : Type
    0 where
  pub session : SessionKept most room step leaves is_clean saves fails remaining contents turns old new keeper keeper'
      input input' output output' ended
  pub begun : L
  pub begins_so : begins listener begun
  pub heard : HasHeard most hears step (record old { part = Closed }) new begun listener' session.read session.sent
      ended

-- The next connection: it is opened, served, and given back as that left it.
abbrev pub ServingTold : {V K L C I O : Type 0} → (most room : ℕ) → Step V → (K → Kept V → Type 0) → (K → Type 0)
    → (saves fails : K → Kept V → K → Type 0) → (L → L → Type 0) → (L → Event → Bool → L → Type 0)
    → (C → Option (I × O) → C → Type 0)
    → (C → I → O → C → Type 0) → (I → Option (List ℕ)) → (O → Option (List ℕ)) → (turns : ℕ) → EncoderState V → K → L
    → C → Ended → EncoderState V → K → L → C → Type 0
ServingTold {V} {K} {L} {C} {I} {O} most room step leaves is_clean saves fails begins hears opens closes remaining
    contents turns e k l c
    ended e' k' l' c' =
    (input : I) × (input' : Metered I) × (output : O) × (output' : Metered O) × (between : C)
    × opens c (Some (input, output)) between
    × SessionTold most room step leaves is_clean saves fails begins hears remaining contents turns e e' k k' l l' input
    input' output
    output' ended
    × closes between input'.device output'.device c'
