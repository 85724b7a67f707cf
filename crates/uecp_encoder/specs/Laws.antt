-- What users of an encoder rely on, for every target. Source: profile.
use Rattle.std.specs.Prelude.{◌≡◌, ℕ, ◌+◌, ◌-◌, ◌%◌, ◌^◌, ◌<◌, ◌≤◌, ◌==◌, min, true, false, List, [], ◌∷◌, ◌++◌, length}
use Rattle.std.specs.Prelude.{get_or, flat_map, Option, Some, Ok, Err, if◌then◌else◌}
use Rattle.uecp_frame.specs.declared.frame.Frame.{Frame}
use Rattle.uecp_frame.specs.Frame.{spelling}
use Rattle.uecp_frame.specs.Findings.{Finding, OpenPart, Closed, has_frame, is_quiet}
use Rattle.uecp_frame.specs.Beyond.{found_beyond, open_beyond}
use Rattle.reply_ring.specs.Ring.{newest}
use Rattle.uecp_encoder.specs.declared.counts.Counts.{Counts}
use Rattle.uecp_encoder.specs.Target.{Step}
use Rattle.uecp_encoder.specs.State.{EncoderState, opening, next_after, after_finding, fed}
use Rattle.uecp_encoder.specs.Answering.{Response, Replied, NotForMe, Unnumbered, NotNext, Dropped, response_to}
use Rattle.uecp_encoder.specs.Answering.{responses_to, answers}

-- ---- A retry acts once.

-- What may happen to an encoder between two deliveries of a frame: it takes a finding; or its target, counts and open
-- part become these, by anything that leaves its address and its kept replies, as where a segment begins, where the
-- line is lost, where something is taken from the target.
pub data Happening (V : Type 0) : Type 0 where
  Finds : (finding : Finding) → Happening V
  Becomes : (value : V) (counts : Counts) (part : OpenPart) → Happening V

-- The encoder after one of these: it took the finding, or its target, counts and open part became these.
abbrev pub after_happening : {V : Type 0} → Step V → EncoderState V → Happening V → EncoderState V
after_happening step e (Finds finding) = after_finding step e finding
after_happening step e (Becomes value counts part) = record e { value = value; counts = counts; part = part }

-- the encoder after happenings, one after another
abbrev pub after_happenings : {V : Type 0} → Step V → EncoderState V → List (Happening V) → EncoderState V
after_happenings step e [] = e
after_happenings step e (h ∷ hs) = after_happenings step (after_happening step e h) hs

-- 1 where a message was applied, else 0
abbrev pub fresh_in : Response → ℕ
fresh_in (Replied bytes fresh) = if fresh then 1 else 0
fresh_in NotForMe = 0
fresh_in Unnumbered = 0
fresh_in NotNext = 0
fresh_in (Dropped fault) = 0

-- how many messages a happening applied
abbrev pub applied_in : {V : Type 0} → Step V → EncoderState V → Happening V → ℕ
applied_in step e (Finds finding) = fresh_in (response_to step e finding)
applied_in step e (Becomes value counts part) = 0

-- how many messages were applied in all
abbrev pub applied_among : {V : Type 0} → Step V → EncoderState V → List (Happening V) → ℕ
applied_among step e [] = 0
applied_among step e (h ∷ hs) = applied_in step e h + applied_among step (after_happening step e h) hs

-- The frame is answered with these bytes as a repeat, and neither target nor kept replies change.
pub record IsRepeat {V : Type 0} (step : Step V) (e : EncoderState V) (f : Frame) (bytes : List ℕ) : Type 0 where
  pub reply : response_to step e (Ok f) ≡ Replied bytes false
  pub value : (after_finding step e (Ok f)).value ≡ e.value
  pub ring : (after_finding step e (Ok f)).ring ≡ e.ring

-- A frame that was applied and comes again, after any happenings among which at most 126 further messages were applied,
-- gets the reply that it got, byte for byte, and changes neither target nor kept replies.
abbrev pub RetryActsOnce : {V : Type 0} → Step V → Type 0
RetryActsOnce {V} step =
    (e : EncoderState V) (f : Frame) (bytes : List ℕ) (between : List (Happening V)) →
    response_to step e (Ok f) ≡ Replied bytes true →
    applied_among step (after_finding step e (Ok f)) between ≤ 126 →
    IsRepeat step (after_happenings step (after_finding step e (Ok f)) between) f bytes

-- ---- No message is applied twice.

-- The frame is not applied: neither target nor kept replies change.
pub record IsNotApplied {V : Type 0} (step : Step V) (e : EncoderState V) (f : Frame) : Type 0 where
  pub none : fresh_in (response_to step e (Ok f)) ≡ 0
  pub value : (after_finding step e (Ok f)).value ≡ e.value
  pub ring : (after_finding step e (Ok f)).ring ≡ e.ring

-- A frame that was applied and comes again, after any happenings among which at most 253 further messages were applied,
-- is not applied again, though its reply may be kept no more: the counters have not come round.
abbrev pub AppliedOnce : {V : Type 0} → Step V → Type 0
AppliedOnce {V} step =
    (e : EncoderState V) (f : Frame) (bytes : List ℕ) (between : List (Happening V)) →
    response_to step e (Ok f) ≡ Replied bytes true →
    applied_among step (after_finding step e (Ok f)) between ≤ 253 →
    IsNotApplied step (after_happenings step (after_finding step e (Ok f)) between) f

-- ---- Messages are applied in the order of their counters.

-- the counter of the message that a happening applied, if it applied one
abbrev pub counter_in : {V : Type 0} → Step V → EncoderState V → Happening V → List ℕ
counter_in step e (Finds (Ok f)) = if applied_in step e (Finds (Ok f)) == 1 then f.counter ∷ [] else []
counter_in step e (Finds (Err fault)) = []
counter_in step e (Becomes value counts part) = []

-- the counters of the messages that were applied, one after another
abbrev pub counters_applied : {V : Type 0} → Step V → EncoderState V → List (Happening V) → List ℕ
counters_applied step e [] = []
counters_applied step e (h ∷ hs) = counter_in step e h ++ counters_applied step (after_happening step e h) hs

-- Each of these counters is the next after the one before it, and the first the next after this one.
abbrev pub Follow : (last : Option ℕ) → List ℕ → Type 0
Follow last [] = Unit {0}
Follow last (counter ∷ later) = (counter ≡ next_after last) × Follow (Some counter) later

-- Whatever happens to an encoder, the counters of the messages that it applies follow the newest that it had kept, one
-- after another.
abbrev pub AppliesInOrder : {V : Type 0} → Step V → Type 0
AppliesInOrder {V} step = (e : EncoderState V) (hs : List (Happening V))
    → Follow (newest e.ring) (counters_applied step e hs)

-- Whatever happens to a new encoder, the first message that it applies has counter 01, and so on up to FF and from 01
-- again.
abbrev pub AppliesFrom01 : {V : Type 0} → Step V → Type 0
AppliesFrom01 {V} step =
    (address : ℕ) (value : V) (hs : List (Happening V)) (k : ℕ) →
    k < length (counters_applied step (opening address value) hs) →
    get_or (counters_applied step (opening address value) hs) k 0 ≡ 1 + k % 255

-- ---- Where the stream is cut makes no difference.

-- Two pieces leave the encoder, and bring the responses and the replies, that they do as one.
pub record IsInPieces {V : Type 0} (step : Step V) (e : EncoderState V) (x y : List ℕ) : Type 0 where
  pub state : fed step e (x ++ y) ≡ fed step (fed step e x) y
  pub responses : responses_to step e (x ++ y) ≡ responses_to step e x ++ responses_to step (fed step e x) y
  pub answers : answers step e (x ++ y) ≡ answers step e x ++ answers step (fed step e x) y

-- ---- A frame is heard after noise.

-- what is found piece after piece
abbrev pub found_in_pieces : OpenPart → List (List ℕ) → List Finding
found_in_pieces o [] = []
found_in_pieces o (piece ∷ pieces) = found_beyond o piece ++ found_in_pieces (open_beyond o piece) pieces

-- the pieces as one list of bytes
abbrev pub joined : List (List ℕ) → List ℕ
joined pieces = flat_map (λ piece. piece) pieces

-- After noise in which no frame stands, the spelling of a frame ends with that frame, and no finding before it is a
-- frame; in any pieces.
abbrev pub IsHeardAfterNoise : Type 0
IsHeardAfterNoise =
    (noise : List ℕ) (f : Frame) (pieces : List (List ℕ)) →
    is_quiet noise ≡ true → length f.message ≤ 255 → joined pieces ≡ noise ++ spelling f →
    (faults : List Finding) × (has_frame faults ≡ false) × (found_in_pieces Closed pieces ≡ faults ++ Ok f ∷ [])

-- ---- Damage changes nothing.

-- Some bytes leave an encoder its address, its target, its kept replies and its counts but that of the dropped
-- segments, which rises by one for each of their findings; and no reply goes back.
pub record IsUnmoved {V : Type 0} (step : Step V) (e : EncoderState V) (bytes : List ℕ) : Type 0 where
  pub state : fed step e bytes ≡ record e {
    counts = record e.counts { dropped = (fed step e bytes).counts.dropped };
    part = open_beyond e.part bytes;
  }
  pub dropped : e.counts.dropped < 2 ^ 64 → (fed step e bytes).counts.dropped
      ≡ min (e.counts.dropped + length (found_beyond e.part bytes)) (2 ^ 64 - 1)
  pub silent : answers step e bytes ≡ []

-- Whatever is open, bytes in which no frame is found do so.
abbrev pub DamageChangesNothing : {V : Type 0} → Step V → Type 0
DamageChangesNothing {V} step = (e : EncoderState V) (bytes : List ℕ) → has_frame (found_beyond e.part bytes) ≡ false
    → IsUnmoved step e bytes
