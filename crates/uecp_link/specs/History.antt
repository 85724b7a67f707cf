-- What reached an encoder's target, in order: messages and takes; a reader has to believe it. Source: profile.
use Rattle.std.specs.Prelude.{ℕ, zero, suc, true, List, [], ◌∷◌, ◌++◌, is_none, if◌then◌else◌}
use Rattle.uecp_encoder.specs.Target.{Step, Taken}
use Rattle.uecp_link.specs.Once.{Event, FrameComes, Take, Answer, Delivered, Took, Once, refusal_of, after, answer_of}

-- The message of a number is applied, or the modulator takes a group.
pub data Act : Type 0 where
  Message : ℕ → Act
  Taking : Act

-- What an event brings, by its answer: a frame that is delivered fresh its message, a take itself, and all else
-- nothing.
abbrev pub act_of : Event → Answer → List Act
act_of (FrameComes k) (Delivered true code) = Message k ∷ []
act_of Take (Took group) = Taking ∷ []
act_of _ _ = []

-- The history of the once-machine over events: what each brings that is not refused.
abbrev pub history : {V : Type 0} → Step V → Taken V → Once V → List Event → List Act
history step taken o [] = []
history step taken o (event ∷ events) =
    if is_none (refusal_of o event)
    then act_of event (answer_of step taken o event) ++ history step taken (after step taken o event) events
    else history step taken o events

-- The numbers of the messages in a history, in order.
abbrev pub messages_in : List Act → List ℕ
messages_in [] = []
messages_in (Message k ∷ acts) = k ∷ messages_in acts
messages_in (Taking ∷ acts) = messages_in acts

-- The numbers below p, in order.
abbrev pub numbers_below : ℕ → List ℕ
numbers_below zero = []
numbers_below (suc p) = numbers_below p ++ p ∷ []
