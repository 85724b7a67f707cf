-- A line as its contracts see it, and when it holds what the once-machine holds; a reader has to believe it, but for
-- `once_of` and `IsLine`. Source: profile.
use Rattle.std.specs.Prelude.{ℕ, ◌-◌, ◌||◌, Bool, ◌≡◌, nat_lt, List, [], ◌∷◌, ◌++◌, length, None, slice_get, Result, Ok}
use Rattle.std.specs.Prelude.{Err}
use Rattle.std.specs.List.{count_by}
use Rattle.std.specs.Result.{is_err}
use Rattle.uecp_elements.specs.declared.code.Code.{Code}
use Rattle.uecp_encoder.specs.Target.{Step, Taken}
use Rattle.uecp_encoder.specs.State.{EncoderState, opening}
use Rattle.uecp_link.specs.Server.{ServerState, is_marked, idle_at}
use Rattle.uecp_link.specs.declared.stepped.Stepped.{Stepped}
use Rattle.uecp_link.specs.Once.{Event, Once, refusal_of, after, answer_of}
use Rattle.uecp_link.specs.Law.{World, Fits, encoder_after, server_after}
use Rattle.uecp_link.specs.declared.refusal.LineRefusal.{LineRefusal}
use Rattle.uecp_link.specs.Events.{Refuses, answer_seen}
use Rattle.uecp_link.specs.History.{Act, act_of}
use Rattle.uecp_link.specs.Kept.{Kept, Hears}

-- A line is its two ends, the messages by number, and the codes of the applied numbers.
pub record LineState (V : Type 0) : Type 0 where
  pub encoder : EncoderState V
  pub server : ServerState
  pub sent : List (List ℕ)
  pub codes : List Code  -- of the applied numbers, from 0

-- How many of the messages that were sent the server holds no more: the oldest ones.
abbrev pub let_go : {V : Type 0} → LineState V → ℕ
let_go line = length line.sent - length line.server.held

-- A number is acknowledged: the server holds its message no more, or holds it marked.
abbrev pub is_acknowledged : {V : Type 0} → LineState V → ℕ → Bool
is_acknowledged line k = nat_lt k (let_go line) || is_marked line.server.held (k - let_go line)

-- What the once-machine holds, as far as a line shows it: all but the noise. For proofs alone.
abbrev pub once_of : {V : Type 0} → LineState V → Once V
once_of line = record {
  sent = line.sent;
  value = line.encoder.value;
  codes = slice_get line.codes;
  acknowledged = is_acknowledged line;
  to_encoder = [];
  to_server = [];
}

-- A line's two ends beside a once-machine.
abbrev pub world_of : {V : Type 0} → LineState V → Once V → World V
world_of line o = record { encoder = line.encoder; server = line.server; once = o }

-- What every line keeps. For proofs alone.
abbrev pub IsLine : {V : Type 0} → LineState V → Type 0
IsLine line = Kept line.encoder.address line.encoder line.server (once_of line) (length line.codes) (let_go line)

-- The line holds what the once-machine holds: the messages, the value, the codes, the acknowledged numbers, and of the
-- noise what it leaves open at each end.
pub record Holds {V : Type 0} (line : LineState V) (o : Once V) : Type 0 where
  pub sent : line.sent ≡ o.sent
  pub value : line.encoder.value ≡ o.value
  pub codes : (k : ℕ) → slice_get line.codes k ≡ o.codes k
  pub acknowledged : (k : ℕ) → is_acknowledged line k ≡ o.acknowledged k
  pub open_parts : Hears line.encoder line.server o

-- One event: the line goes from what the once-machine held to its next state, and answers what that answers; the two
-- ends are fed the event's bytes, and nothing else.
pub record StepsAs {V : Type 0} (step : Step V) (taken : Taken V) (old : LineState V) (o : Once V) (event : Event)
    (stepped : Stepped) (new : LineState V) : Type 0 where
  pub accepted : refusal_of o event ≡ None
  pub answer : answer_seen stepped ≡ answer_of step taken o event
  pub encoder : new.encoder ≡ encoder_after step taken old.encoder.address o old.encoder event
  pub server : new.server ≡ server_after old.encoder.address o old.server event
  pub holds : Holds new (after step taken o event)

-- What a call of `step` answers.
abbrev pub Outcome : Type 0
Outcome = Result Stepped LineRefusal

-- One event, whichever way it ends: it takes place, and its message fits a frame; or it is refused, by the once-machine
-- or for want of memory, and the line has not changed.
abbrev pub StepsTo : {V : Type 0} → Step V → Taken V → LineState V → Once V → Event → Outcome → LineState V → Type 0
StepsTo step taken old o event (Ok stepped) new = Fits event × StepsAs step taken old o event stepped new
StepsTo step taken old o event (Err refusal) new = Refuses o event refusal × (new ≡ old)

-- What the once-machine holds after that.
abbrev pub once_after : {V : Type 0} → Step V → Taken V → Once V → Event → Outcome → Once V
once_after step taken o event (Ok stepped) = after step taken o event
once_after step taken o event (Err refusal) = o

-- Events in turn, each a step of the line with its own outcome: they lead the line, and the once-machine beside it, to
-- these.
abbrev pub Plays : {V : Type 0} → Step V → Taken V → LineState V → Once V → List Event → List Outcome → LineState V
    → Once V → Type 0
Plays step taken line o [] [] line' o' = (line' ≡ line) × (o' ≡ o)
Plays step taken line o [] (outcome ∷ outcomes) line' o' = ⊥
Plays step taken line o (event ∷ events) [] line' o' = ⊥
Plays {V} step taken line o (event ∷ events) (outcome ∷ outcomes) line' o' =
    (next : LineState V) × StepsTo step taken line o event outcome next
    × Plays step taken next (once_after step taken o event outcome) events outcomes line' o'

-- What an event brings to the history of the line, by its outcome.
abbrev pub act_by : Event → Outcome → List Act
act_by event (Ok stepped) = act_of event (answer_seen stepped)
act_by event (Err refusal) = []

-- The history of a line over events, by their outcomes: each fresh delivery of a message and each take, in order.
abbrev pub history_by : List Event → List Outcome → List Act
history_by (event ∷ events) (outcome ∷ outcomes) = act_by event outcome ++ history_by events outcomes
history_by _ _ = []

-- A list of events, with how many of them were refused: in turn each was a step, and the line holds what the
-- once-machine holds at the end.
pub record RunsAs {V : Type 0} (step : Step V) (taken : Taken V) (old : LineState V) (o : Once V) (events : List Event)
    (refused : ℕ) (new : LineState V) : Type 0 where
  pub outcomes : List Outcome
  pub last : Once V
  pub plays : Plays step taken old o events outcomes new last
  pub count : refused ≡ count_by is_err outcomes
  pub holds : Holds new last

-- A line of this encoder and a new server for it, and nothing sent.
abbrev pub line_from : {V : Type 0} → EncoderState V → LineState V
line_from e = record { encoder = e; server = idle_at e.address; sent = []; codes = [] }

-- A new line has two new ends, and nothing sent.
abbrev pub new_line : {V : Type 0} → ℕ → V → LineState V
new_line address value = line_from (opening address value)
