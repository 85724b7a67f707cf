-- What a server is told of its messages on a line; a reader has to believe it. Source: profile.
use Rattle.std.specs.Prelude.{◌≡◌, ℕ, ◌<◌, List, [], ◌∷◌, ◌++◌, length, Some, Ok, Err}
use Rattle.uecp_elements.specs.declared.code.Code.{Code}
use Rattle.uecp_elements.specs.declared.code.Code.TheVariants.{Applied}
use Rattle.uecp_encoder.specs.Target.{Step, Taken}
use Rattle.uecp_encoder.specs.State.{EncoderState}
use Rattle.uecp_link.specs.Events.{answer_seen}
use Rattle.uecp_link.specs.Once.{Event, ReplyComes, Answer, Acknowledged, Once, at_first}
use Rattle.uecp_link.specs.Holds.{LineState, Outcome, Plays, line_from}
use Rattle.uecp_link.specs.Window.{code_under}

-- What an event tells by its answer: of a reply that comes for the first time its number and its code, else nothing.
abbrev pub told_by : Event → Answer → List (ℕ × Code)
told_by (ReplyComes k) (Acknowledged code) = (k, code) ∷ []
told_by _ _ = []

-- The same by its outcome, which is no answer where the line refused it.
abbrev pub told_of : Event → Outcome → List (ℕ × Code)
told_of event (Ok stepped) = told_by event (answer_seen stepped)
told_of event (Err refusal) = []

-- What was told over events, by their outcomes, in order.
abbrev pub told_over : List Event → List Outcome → List (ℕ × Code)
told_over (event ∷ events) (outcome ∷ outcomes) = told_of event outcome ++ told_over events outcomes
told_over _ _ = []

-- Each of the first so many numbers was told to be acknowledged, with code 00.
abbrev pub AreToldApplied : (count : ℕ) → (told : List (ℕ × Code)) → Type 0
AreToldApplied count told = (k : ℕ) → k < count → code_under k told ≡ Some Applied

-- A line of this encoder and a new server played these events, with these outcomes, and came to this. What was sent are
-- the messages of the station, in order, and no other; and each was told to be acknowledged, with code 00.
pub record IsAcknowledged {V : Type 0} (step : Step V) (taken : Taken V) (e : EncoderState V)
    (station : List (List ℕ)) (events : List Event) (outcomes : List Outcome) (line : LineState V) : Type 0 where
  pub once : Once V
  pub plays : Plays step taken (line_from e) (at_first e.value) events outcomes line once
  pub sent : line.sent ≡ station
  pub told : AreToldApplied (length station) (told_over events outcomes)
