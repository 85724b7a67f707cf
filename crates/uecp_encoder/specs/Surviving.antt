-- What a crash leaves of an encoder loses nothing and doubles nothing. Source: profile.
use Rattle.std.specs.Prelude.{◌≡◌, ℕ, ◌+◌, ◌<◌, ◌≤◌, true, List, ◌∷◌, ◌++◌, length, take, map, Ok}
use Rattle.uecp_frame.specs.declared.frame.Frame.{Frame}
use Rattle.uecp_frame.specs.Findings.{Finding, Closed}
use Rattle.uecp_frame.specs.Beyond.{found_beyond}
use Rattle.uecp_encoder.specs.Target.{Step}
use Rattle.uecp_encoder.specs.State.{EncoderState, no_counts, after_finding, after_findings}
use Rattle.uecp_encoder.specs.Answering.{Replied, response_to, answers}
use Rattle.uecp_encoder.specs.Laws.{Happening, Finds, Becomes, after_happening, after_happenings, applied_among}
use Rattle.uecp_encoder.specs.Laws.{IsRepeat, IsNotApplied}
use Rattle.uecp_encoder.specs.Keeping.{Kept, kept_of, going_on, Outlives}

-- ---- An encoder that goes on.

-- An encoder that goes on from what is to be kept of another, at its address, is that other after something that leaves
-- its address, its target's value and its kept replies. So what the laws of an encoder say whatever happens to it, they
-- say also where it ends and goes on.
abbrev pub GoesOnAsItWas : {V : Type 0} → Step V → Type 0
GoesOnAsItWas {V} step = (e : EncoderState V) → going_on e.address (kept_of e)
    ≡ after_happening step e (Becomes e.value no_counts Closed)

-- ---- A crash loses nothing.

-- An encoder was e, read s, sent these bytes, and crashed; this is what the crash left. Where even one byte of the
-- reply to the frame that ends at a place of s was sent, what was left has taken that frame.
abbrev pub LosesNothing : {V : Type 0} → Step V → Type 0
LosesNothing {V} step =
    (e : EncoderState V) (s sent : List ℕ) (left : Kept V) (survives : Outlives step e s sent left) (place : ℕ) →
    length (answers step e (take place s)) < length sent → place < length survives.taken

-- ---- A crash doubles nothing.

-- how many messages were applied after a frame was: by the findings until the crash, and by what happened since
abbrev pub applied_since : {V : Type 0} → Step V → (before : EncoderState V) → (frame : Frame) → (later : List Finding)
    → (again : EncoderState V) → (since : List (Happening V)) → ℕ
applied_since step before frame later again since =
    applied_among step (after_finding step before (Ok frame)) (map Finds later) + applied_among step again since

-- A frame whose message was applied acts once: within 126 further messages it is answered with the reply that it got,
-- and nothing changes; within 253 it is not applied.
pub record ActsOnce {V : Type 0} (step : Step V) (e : EncoderState V) (frame : Frame) (reply : List ℕ)
    (messages : ℕ) : Type 0 where
  pub answered : messages ≤ 126 → IsRepeat step e frame reply
  pub not_applied : messages ≤ 253 → IsNotApplied step e frame

-- An encoder goes on from what a crash left, and then anything happens: a frame whose message was applied in what was
-- left, among other findings, acts once.
abbrev pub DoublesNothing : {V : Type 0} → Step V → Type 0
DoublesNothing {V} step =
    (e : EncoderState V) (s sent : List ℕ) (left : Kept V) (survives : Outlives step e s sent left)
    (earlier later : List Finding) (frame : Frame) (reply : List ℕ) (since : List (Happening V)) →
    found_beyond e.part survives.taken ≡ earlier ++ Ok frame ∷ later →
    response_to step (after_findings step e earlier) (Ok frame) ≡ Replied reply true →
    let again : EncoderState V = going_on e.address left in
    ActsOnce step (after_happenings step again since) frame reply
    (applied_since step (after_findings step e earlier) frame later again since)
