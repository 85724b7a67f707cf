-- What `serve_with` does with the bytes that it reads, and with what it keeps. Source: profile.
use Rattle.std.specs.Prelude.{◌≡◌, ℕ, ◌+◌, ◌*◌, ◌<◌, ◌≤◌, ◌==◌, Bool, true, false, List, [], ◌∷◌, length, take, Option}
use Rattle.std.specs.Prelude.{Result, Ok, Err}
use Rattle.uecp_frame.specs.Findings.{OpenPart}
use Rattle.uecp_frame.specs.Beyond.{found_beyond}
use Rattle.uecp_encoder.specs.declared.serving.Served.{Served}
use Rattle.uecp_encoder.specs.declared.serving.ServeFault.TheVariants.{ReadFailed, WriteFailed, TurnsSpent}
use Rattle.uecp_encoder.specs.declared.serving.KeptFault.{KeptFault}
use Rattle.uecp_encoder.specs.declared.serving.KeptFault.TheVariants.{Serve, StateFailed}
use Rattle.uecp_encoder.specs.Target.{Step}
use Rattle.uecp_encoder.specs.State.{EncoderState, fed}
use Rattle.uecp_encoder.specs.Answering.{Response, responses_to, answers}
use Rattle.uecp_encoder.specs.Laws.{fresh_in, joined}
use Rattle.uecp_encoder.specs.Serving.{Serves, ReadsMade, read_failures, empty_reads, write_failures}
use Rattle.uecp_encoder.specs.Keeping.{Kept, kept_of, Settled, Outlives}

-- How a call ended.
abbrev pub Ended : Type 0
Ended = Result Served KeptFault

-- how many of these are replies to messages that were applied now
abbrev pub fresh_among : List Response → ℕ
fresh_among [] = 0
fresh_among (r ∷ rs) = fresh_in r + fresh_among rs

-- ---- What was read and written.

-- The bytes of s from the start to the one at this place are taken together: but for that one they find fewer than
-- `most` things.
pub record IsTogether (most : ℕ) (part : OpenPart) (s : List ℕ) (start place : ℕ) : Type 0 where
  pub in_order : start ≤ place
  pub within : place < length s
  pub few : length (found_beyond part (take place s)) < length (found_beyond part (take start s)) + most

-- A write failed after the first w bytes of the replies to s. The encoder was fed s up to and with the byte at this
-- place. The replies to what comes before the start were written whole; those to the bytes from there on, which became
-- due together, were not.
pub record StopsAnswering {V : Type 0} (most : ℕ) (step : Step V) (e e' : EncoderState V) (s sent : List ℕ)
    (w start place : ℕ) : Type 0 where
  pub together : IsTogether most e.part s start place
  pub state : e' ≡ fed step e (take (place + 1) s)
  pub written : sent ≡ take w (answers step e s)
  pub before : length (answers step e (take start s)) ≤ w
  pub due : w < length (answers step e (take (place + 1) s))

-- A save failed. The encoder was fed s up to and with the byte at this place. The replies to what comes before the
-- start were written whole; of those to the bytes from there on, which became due together and of which one at least is
-- fresh, nothing was.
pub record StopsSaving {V : Type 0} (most : ℕ) (step : Step V) (e e' : EncoderState V) (s sent : List ℕ)
    (start place : ℕ) : Type 0 where
  pub together : IsTogether most e.part s start place
  pub state : e' ≡ fed step e (take (place + 1) s)
  pub written : sent ≡ answers step e (take start s)
  pub fresh : fresh_among (responses_to step e (take start s)) < fresh_among (responses_to step e (take (place + 1) s))

-- What was read and written is as `serve` says of it where the input ended, a read failed or the turns were spent; else
-- a write failed or a save did, where fewer bytes than a read takes at most were read past those that were fed.
abbrev pub ServesOrStops : {V : Type 0} → (most room : ℕ) → Step V → (e e' : EncoderState V) → (s sent : List ℕ)
    → (unread : Option (List ℕ)) → (turns : ℕ) → Ended → Type 0
ServesOrStops most room step e e' s sent unread turns (Ok served) = Serves step e e' s sent unread turns (Ok served)
ServesOrStops most room step e e' s sent unread turns (Err (Serve ReadFailed)) =
    Serves step e e' s sent unread turns (Err ReadFailed)
ServesOrStops most room step e e' s sent unread turns (Err (Serve TurnsSpent)) =
    Serves step e e' s sent unread turns (Err TurnsSpent)
ServesOrStops most room step e e' s sent unread turns (Err (Serve (WriteFailed w))) =
    (start place : ℕ) × StopsAnswering most step e e' s sent w start place × (length s < place + 1 + room)
ServesOrStops most room step e e' s sent unread turns (Err StateFailed) =
    (start place : ℕ) × StopsSaving most step e e' s sent start place × (length s < place + 1 + room)

-- how many reads a call made: as `serve` says; and at least one where a save failed
abbrev pub KeptReadsMade : Ended → (turns n : ℕ) → Type 0
KeptReadsMade (Ok served) turns n = ReadsMade (Ok served) turns n
KeptReadsMade (Err (Serve fault)) turns n = ReadsMade (Err fault) turns n
KeptReadsMade (Err StateFailed) turns n = (1 ≤ n) × (n ≤ turns)

-- the reader's failures after the call: as `serve` says; and no more where a save failed
abbrev pub kept_read_failures : Ended → ℕ → ℕ
kept_read_failures (Ok served) failures = read_failures (Ok served) failures
kept_read_failures (Err (Serve fault)) failures = read_failures (Err fault) failures
kept_read_failures (Err StateFailed) failures = failures

-- the reader's reads that brought nothing, after the call: as `serve` says; and no more where a save failed
abbrev pub kept_empty_reads : Ended → ℕ → ℕ
kept_empty_reads (Ok served) empty = empty_reads (Ok served) empty
kept_empty_reads (Err (Serve fault)) empty = empty_reads (Err fault) empty
kept_empty_reads (Err StateFailed) empty = empty

-- the writer's failures after the call: as `serve` says; and no more where a save failed
abbrev pub kept_write_failures : Ended → ℕ → ℕ
kept_write_failures (Ok served) failures = write_failures (Ok served) failures
kept_write_failures (Err (Serve fault)) failures = write_failures (Err fault) failures
kept_write_failures (Err StateFailed) failures = failures

-- ---- What is kept.

-- Whatever a crash may leave after the call is what is to be kept of the encoder, unless a save failed.
abbrev pub StaysSettled : {V : Type 0} → (leaves : Kept V → Type 0) → EncoderState V → Ended → Type 0
StaysSettled leaves e (Ok served) = Settled leaves e
StaysSettled leaves e (Err (Serve fault)) = Settled leaves e
StaysSettled leaves e (Err StateFailed) = Unit {0}

-- Where the call says that a save failed, a save of this encoder did, and left the keeper so.
abbrev pub IsSaveFailed : {V K : Type 0} → (fails : K → Kept V → K → Type 0) → EncoderState V → K → Ended → Type 0
IsSaveFailed fails e k (Ok served) = Unit {0}
IsSaveFailed fails e k (Err (Serve fault)) = Unit {0}
IsSaveFailed {V} {K} fails e k (Err StateFailed) = (before : K) × fails before (kept_of e) k

-- What is saved where this many fresh replies are due together: nothing where none is, and else this.
abbrev pub SavesOnce : {V K : Type 0} → (saves : K → Kept V → K → Type 0) → (is_none : Bool) → Kept V → (k k' : K)
    → Type 0
SavesOnce saves true kept k k' = k' ≡ k
SavesOnce saves false kept k k' = saves k kept k'

-- The encoder was saved as each of these parts left it to which it gives a fresh reply, one after another, and nothing
-- else was saved.
abbrev pub SavesEach : {V K : Type 0} → (saves : K → Kept V → K → Type 0) → Step V → EncoderState V → List (List ℕ)
    → (k k' : K) → Type 0
SavesEach saves step e [] k k' = k' ≡ k
SavesEach {V} {K} saves step e (part ∷ parts) k k' =
    (between : K)
    × SavesOnce saves (fresh_among (responses_to step e part) == 0) (kept_of (fed step e part)) k between
    × SavesEach saves step (fed step e part) parts between k'

-- These bytes, of so many reads, were taken in parts, and the encoder was saved once for each that has a fresh reply:
-- so at most once for each read, and once more for each `most` things that they find.
pub record SavesFor {V K : Type 0} (most : ℕ) (saves : K → Kept V → K → Type 0) (step : Step V) (e : EncoderState V)
    (bytes : List ℕ) (reads : ℕ) (k k' : K) : Type 0 where
  pub parts : List (List ℕ)
  pub whole : joined parts ≡ bytes
  pub saved : SavesEach saves step e parts k k'
  pub few : most * length parts ≤ most * reads + length (found_beyond e.part bytes)

-- What was saved: for all of s; where a write failed, for the bytes that were fed; and where a save failed, for those
-- before the start of the part that it was for.
abbrev pub HasSaved : {V K : Type 0} → (most : ℕ) → (saves fails : K → Kept V → K → Type 0) → Step V
    → (e e' : EncoderState V) → (k k' : K) → (s sent : List ℕ) → (reads : ℕ) → Ended → Type 0
HasSaved most saves fails step e e' k k' s sent reads (Ok served) = SavesFor most saves step e s reads k k'
HasSaved most saves fails step e e' k k' s sent reads (Err (Serve ReadFailed)) = SavesFor most saves step e s reads k k'
HasSaved most saves fails step e e' k k' s sent reads (Err (Serve TurnsSpent)) = SavesFor most saves step e s reads k k'
HasSaved most saves fails step e e' k k' s sent reads (Err (Serve (WriteFailed w))) =
    (start place : ℕ) × StopsAnswering most step e e' s sent w start place
    × SavesFor most saves step e (take (place + 1) s) reads k k'
HasSaved {V} {K} most saves fails step e e' k k' s sent reads (Err StateFailed) =
    (start place : ℕ) × StopsSaving most step e e' s sent start place
    × ((before : K) × SavesFor most saves step e (take start s) reads k before × fails before (kept_of e') k')

-- A call read s, by so many reads, and wrote these bytes. Where whatever a crash left at its start was what is to be
-- kept of the encoder, whatever one leaves at its end is what is to be kept once some first bytes of s were taken, and
-- only replies to those were written. What was saved is as `HasSaved` says; and where no reply to s is fresh nothing
-- was.
pub record ServesKept {V K : Type 0} (most room : ℕ) (step : Step V) (leaves : K → Kept V → Type 0)
    (is_clean : K → Type 0) (saves fails : K → Kept V → K → Type 0) (e e' : EncoderState V) (k k' : K)
    (s sent : List ℕ) (unread : Option (List ℕ)) (turns reads : ℕ) (ended : Ended) : Type 0 where
  pub serves : ServesOrStops most room step e e' s sent unread turns ended
  pub kept : Settled (leaves k) e → is_clean k' → (left : Kept V) → leaves k' left → Outlives step e s sent left
  pub saved : HasSaved most saves fails step e e' k k' s sent reads ended
  pub same : fresh_among (responses_to step e s) ≡ 0 → k' ≡ k
