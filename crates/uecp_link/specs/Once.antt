-- The once-machine, which says what a line is to do; a reader has to believe it. It has numbers of messages and sets of
-- numbers, and knows no counter, no kept reply and no frame. Source: profile.
use Rattle.std.specs.Prelude.{ℕ, zero, suc, ◌+◌, ◌-◌, ◌==◌, nat_lt, Bool, true, false, List, [], ◌∷◌, ◌++◌, length}
use Rattle.std.specs.Prelude.{get_or, Option, Some, None, is_some, if◌then◌else◌}
use Rattle.uecp_elements.specs.declared.code.Code.{Code}
use Rattle.rds_store.specs.declared.group.Group.{Group}
use Rattle.uecp_frame.specs.Findings.{found, is_quiet}
use Rattle.uecp_encoder.specs.Target.{Step, Taken}
use Rattle.uecp_link.specs.Counters.{is_recent}

-- What happens on a line and at its encoder. Numbers of messages count from 0. That bytes are lost is an event that
-- does not come.
pub data Event : Type 0 where
  Submit : List ℕ → Event
  FrameComes : ℕ → Event  -- the frame of this number comes to the encoder
  ReplyComes : ℕ → Event  -- the reply to this number comes to the server
  NoiseToEncoder : List ℕ → Event
  NoiseToServer : List ℕ → Event
  EncoderLost : Event
  ServerLost : Event
  EncoderRestart : Event  -- the encoder starts again, and goes on from what it kept
  ServerRestart : Event  -- the server starts again, and goes on from what it kept
  Take : Event  -- the modulator takes a group from the encoder

-- Why an event is refused: eight messages were sent from the least number on that is not acknowledged; there is no such
-- message or no reply to it yet; more than 126 messages were numbered after it; a frame would stand in the noise.
pub data Refusal : Type 0 where
  Busy : Refusal
  NotSent : Refusal
  TooLate : Refusal
  HoldsAFrame : Refusal

-- What an event that is not refused is answered.
pub data Answer : Type 0 where
  Numbered : ℕ → Answer
  Delivered : Bool → Code → Answer  -- whether it is fresh, and the reply's code
  NotNext : Answer  -- an earlier message was not applied yet, so this one is not either
  Acknowledged : Code → Answer
  Stray : Answer
  Noise : ℕ → Answer  -- how many findings it adds
  Lost : Answer
  Restarted : Answer
  Took : Option Group → Answer  -- the group, if there was one

-- Its state: the messages by number, the target's value, the codes of the applied numbers, the set of the acknowledged
-- ones, and the noise towards each end.
pub record Once (V : Type 0) : Type 0 where
  pub sent : List (List ℕ)
  pub value : V
  pub codes : ℕ → Option Code  -- the codes of the applied numbers
  pub acknowledged : ℕ → Bool
  pub to_encoder : List ℕ  -- the noise since the last whole frame, or loss or restart of that end
  pub to_server : List ℕ

-- The message of a number.
abbrev pub message_at : List (List ℕ) → ℕ → List ℕ
message_at sent k = get_or sent k []

-- The numbers below n that are not in a set, in order.
abbrev pub missing : (ℕ → Bool) → ℕ → List ℕ
missing set zero = []
missing set (suc n) = missing set n ++ (if set n then [] else n ∷ [])

-- The first of some numbers, or n where there is none.
abbrev pub first_or : List ℕ → ℕ → ℕ
first_or [] n = n
first_or (k ∷ ks) n = k

-- The least number that is not in a set, of those up to n.
abbrev pub least_missing : (ℕ → Bool) → ℕ → ℕ
least_missing set n = first_or (missing set n) n

-- Of n messages fewer than eight were sent from the least on that is not acknowledged.
abbrev pub has_room : (ℕ → Bool) → ℕ → Bool
has_room acknowledged n = nat_lt n (least_missing acknowledged n + 8)

-- Of n numbers this one is the next to be applied: the least that has no code.
abbrev pub is_next : (ℕ → Option Code) → ℕ → ℕ → Bool
is_next codes n k = k == least_missing (λ j. is_some (codes j)) n

-- Why the machine refuses an event, or None where it does not: a submission where eight numbers were sent from the
-- least on that is not acknowledged; a frame of a number not sent, or sent too long ago; a reply to a number not
-- applied, or sent too long ago; noise that, after the noise before it in that direction, holds a frame.
abbrev pub refusal_of : {V : Type 0} → Once V → Event → Option Refusal
refusal_of o (Submit m) = if has_room o.acknowledged (length o.sent) then None else Some Busy
refusal_of o (FrameComes k) =
    if nat_lt k (length o.sent) then (if is_recent (length o.sent) k then None else Some TooLate) else Some NotSent
refusal_of o (ReplyComes k) =
    if is_some (o.codes k) then (if is_recent (length o.sent) k then None else Some TooLate) else Some NotSent
refusal_of o (NoiseToEncoder x) = if is_quiet (o.to_encoder ++ x) then None else Some HoldsAFrame
refusal_of o (NoiseToServer x) = if is_quiet (o.to_server ++ x) then None else Some HoldsAFrame
refusal_of o EncoderLost = None
refusal_of o ServerLost = None
refusal_of o EncoderRestart = None
refusal_of o ServerRestart = None
refusal_of o Take = None

-- A map with one more entry.
abbrev pub with_code : (ℕ → Option Code) → ℕ → Code → ℕ → Option Code
with_code codes k code j = if j == k then Some code else codes j

-- A set with one more member.
abbrev pub with_member : (ℕ → Bool) → ℕ → ℕ → Bool
with_member set k j = if j == k then true else set j

-- The message of a number is applied, and the number has its code.
abbrev pub applied_once : {V : Type 0} → Step V → Once V → ℕ → Once V
applied_once step o k =
    record {
      sent = o.sent;
      value = (step o.value (message_at o.sent k)).0;
      codes = with_code o.codes k (step o.value (message_at o.sent k)).1;
      acknowledged = o.acknowledged;
      to_encoder = [];
      to_server = o.to_server;
    }

-- The state after the frame of a number, by the code that it has: where it has none and is the next, its message is
-- applied; else nothing is done but that the noise before the frame is over.
abbrev pub delivered : {V : Type 0} → Step V → Once V → ℕ → Option Code → Once V
delivered step o k (Some code) = record o { to_encoder = [] }
delivered step o k None = if is_next o.codes (length o.sent) k then applied_once step o
    k else record o { to_encoder = [] }

-- The state after an event that is not refused: a submission adds a message, a frame is delivered, a reply makes its
-- number an acknowledged one, noise is added to the noise of its direction, a loss or a restart of an end forgets the
-- noise towards that end and nothing else, and a take changes the value alone.
abbrev pub after : {V : Type 0} → Step V → Taken V → Once V → Event → Once V
after step taken o (Submit m) = record o { sent = o.sent ++ m ∷ [] }
after step taken o (FrameComes k) = delivered step o k (o.codes k)
after step taken o (ReplyComes k) = record o { acknowledged = with_member o.acknowledged k; to_server = [] }
after step taken o (NoiseToEncoder x) = record o { to_encoder = o.to_encoder ++ x }
after step taken o (NoiseToServer x) = record o { to_server = o.to_server ++ x }
after step taken o EncoderLost = record o { to_encoder = [] }
after step taken o ServerLost = record o { to_server = [] }
after step taken o EncoderRestart = record o { to_encoder = [] }
after step taken o ServerRestart = record o { to_server = [] }
after step taken o Take = record o { value = (taken o.value).0 }

-- What is answered to the frame of a number, by the code that it has.
abbrev pub delivery : {V : Type 0} → Step V → Once V → ℕ → Option Code → Answer
delivery step o k (Some code) = Delivered false code
delivery step o k None = if is_next o.codes (length o.sent) k then Delivered true
    (step o.value (message_at o.sent k)).1 else NotNext

-- What is answered to a reply: the first time it acknowledges with the number's code, then it is stray.
abbrev pub acknowledgement : Bool → Option Code → Answer
acknowledgement false (Some code) = Acknowledged code
acknowledgement _ _ = Stray

-- The answer to an event that is not refused; to noise it is how many findings that adds.
abbrev pub answer_of : {V : Type 0} → Step V → Taken V → Once V → Event → Answer
answer_of step taken o (Submit m) = Numbered (length o.sent)
answer_of step taken o (FrameComes k) = delivery step o k (o.codes k)
answer_of step taken o (ReplyComes k) = acknowledgement (o.acknowledged k) (o.codes k)
answer_of step taken o (NoiseToEncoder x) = Noise (length (found (o.to_encoder ++ x)) - length (found o.to_encoder))
answer_of step taken o (NoiseToServer x) = Noise (length (found (o.to_server ++ x)) - length (found o.to_server))
answer_of step taken o EncoderLost = Lost
answer_of step taken o ServerLost = Lost
answer_of step taken o EncoderRestart = Restarted
answer_of step taken o ServerRestart = Restarted
answer_of step taken o Take = Took (taken o.value).1

-- At first nothing is sent, nothing applied, and the value is the one that was given.
abbrev pub at_first : {V : Type 0} → V → Once V
at_first opening = record {
  sent = [];
  value = opening;
  codes = λ _. None;
  acknowledged = λ _. false;
  to_encoder = [];
  to_server = [];
}
