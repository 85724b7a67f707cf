-- What a listener is told of what an encoder finds and answers; a reader has to believe it. Source: profile.
use Rattle.std.specs.Prelude.{◌≡◌, ℕ, ◌+◌, ◌-◌, nat_le, Bool, true, false, List, [], ◌∷◌, length, take, drop, Ok, Err}
use Rattle.uecp_frame.specs.declared.frame.Frame.{Frame}
use Rattle.uecp_frame.specs.Frame.{spelling}
use Rattle.uecp_frame.specs.Findings.{Finding}
use Rattle.uecp_frame.specs.Feeding.{findings_of}
use Rattle.uecp_frame.specs.Beyond.{found_beyond}
use Rattle.uecp_encoder.specs.declared.serving.ServeFault.TheVariants.{ReadFailed, WriteFailed, TurnsSpent}
use Rattle.uecp_encoder.specs.Target.{Step}
use Rattle.uecp_encoder.specs.State.{EncoderState, after_finding, fed}
use Rattle.uecp_encoder.specs.Answering as answering
use Rattle.uecp_encoder.specs.Answering.{Response, Replied, reply_of, response_to, bytes_sent, answers}
use Rattle.uecp_encoder.specs.declared.serving.KeptFault.TheVariants.{Serve, StateFailed}
use Rattle.uecp_encoder.specs.ServingWith.{Ended, StopsAnswering, StopsSaving}
use Rattle.uecp_encoder.specs.declared.listener.Answered.{Answered}
use Rattle.uecp_encoder.specs.declared.listener.Answered.TheVariants.{New, Repeat, NotNext, Unnumbered, NotForMe}
use Rattle.uecp_encoder.specs.declared.listener.Answered.TheVariants.{Dropped}
use Rattle.uecp_encoder.specs.declared.listener.Event.{Event}

-- what is told of an answer, as a response
abbrev pub response_of : Answered → Response
response_of (New code reply) = Replied reply.items true
response_of (Repeat code reply) = Replied reply.items false
response_of NotNext = answering.NotNext
response_of Unnumbered = answering.Unnumbered
response_of NotForMe = answering.NotForMe
response_of (Dropped fault) = answering.Dropped fault

-- The code that is told of a reply is the one that it says: the reply is from this address, to the frame that was
-- found.
abbrev pub SaysCode : (address : ℕ) → Finding → Answered → Type 0
SaysCode address x (New code reply) =
    (f : Frame) × (x ≡ Ok f) × (reply.items ≡ spelling (reply_of address f.counter code))
SaysCode address x (Repeat code reply) =
    (f : Frame) × (x ≡ Ok f) × (reply.items ≡ spelling (reply_of address f.counter code))
SaysCode address x NotNext = Unit {0}
SaysCode address x Unnumbered = Unit {0}
SaysCode address x NotForMe = Unit {0}
SaysCode address x (Dropped fault) = Unit {0}

-- The event tells of this finding, and of what an encoder in this state answers to it.
pub record Tells {V : Type 0} (step : Step V) (e : EncoderState V) (x : Finding) (event : Event) : Type 0 where
  pub found : findings_of event.found ≡ x ∷ []
  pub answer : response_to step e x ≡ response_of event.answer
  pub code : SaysCode e.address x event.answer

-- A listener was told of each of these findings, once and in order, each from the state that the one before left, with
-- its reply written whole; and of nothing else.
abbrev pub HearsEach : {V L : Type 0} → (hears : L → Event → Bool → L → Type 0) → Step V → EncoderState V
    → List Finding → (l l' : L) → Type 0
HearsEach hears step e [] l l' = l' ≡ l
HearsEach {V} {L} hears step e (x ∷ xs) l l' =
    (between : L) × ((event : Event) × Tells step e x event × hears l event true between)
    × HearsEach hears step (after_finding step e x) xs between l'

-- so of each that these bytes find
abbrev pub HearsFor : {V L : Type 0} → (hears : L → Event → Bool → L → Type 0) → Step V → EncoderState V → List ℕ
    → (l l' : L) → Type 0
HearsFor hears step e bytes l l' = HearsEach hears step e (found_beyond e.part bytes) l l'

-- So it was told of each, but a reply counts as written whole only as far as these first bytes of the replies reach:
-- what has no reply does, and so does a reply that ends within them.
abbrev pub HearsWithin : {V L : Type 0} → (hears : L → Event → Bool → L → Type 0) → Step V → EncoderState V
    → List Finding → (written : ℕ) → (l l' : L) → Type 0
HearsWithin hears step e [] written l l' = l' ≡ l
HearsWithin {V} {L} hears step e (x ∷ xs) written l l' =
    let reply : ℕ = length (bytes_sent (response_to step e x)) in
    (between : L) × ((event : Event) × Tells step e x event × hears l event (nat_le reply written) between)
    × HearsWithin hears step (after_finding step e x) xs (written - reply) between l'

-- It was told of each that is found before the start; and then of those from there to this place, whose replies became
-- due together, of which so many bytes were written in all.
pub record HearsUnsent {V L : Type 0} (hears : L → Event → Bool → L → Type 0) (step : Step V) (e : EncoderState V)
    (s : List ℕ) (w start place : ℕ) (l l' : L) : Type 0 where
  pub before : L
  pub earlier : HearsFor hears step e (take start s) l before
  pub unsent : HearsWithin hears step (fed step e (take start s))
      (found_beyond (fed step e (take start s)).part (drop start (take (place + 1) s)))
      (w - length (answers step e (take start s))) before l'

-- What a listener was told in a call that read s: of each thing that s finds; where a write failed, of those up to and
-- with the ones whose replies it was to write; and where a save failed, of those before the ones that it was for.
abbrev pub HasHeard : {V L : Type 0} → (most : ℕ) → (hears : L → Event → Bool → L → Type 0) → Step V
    → (e e' : EncoderState V) → (l l' : L) → (s sent : List ℕ) → Ended → Type 0
HasHeard most hears step e e' l l' s sent (Ok served) = HearsFor hears step e s l l'
HasHeard most hears step e e' l l' s sent (Err (Serve ReadFailed)) = HearsFor hears step e s l l'
HasHeard most hears step e e' l l' s sent (Err (Serve TurnsSpent)) = HearsFor hears step e s l l'
HasHeard most hears step e e' l l' s sent (Err (Serve (WriteFailed w))) =
    (start place : ℕ) × StopsAnswering most step e e' s sent w start place
    × HearsUnsent hears step e s w start place l l'
HasHeard most hears step e e' l l' s sent (Err StateFailed) =
    (start place : ℕ) × StopsSaving most step e e' s sent start place × HearsFor hears step e (take start s) l l'
