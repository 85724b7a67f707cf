-- How a server that knows nothing of an encoder brings it to counter FF, by empty messages; a reader has to believe it.
-- Source: profile.
use Rattle.std.specs.Prelude.{◌≡◌, ℕ, zero, suc, ◌+◌, ◌-◌, ◌≤◌, ◌==◌, ◌&&◌, not, Bool, List, [], ◌∷◌, ◌++◌, map}
use Rattle.std.specs.Prelude.{Contains, Ok, Err, if◌then◌else◌}
use Rattle.uecp_frame.specs.declared.frame.Frame.{Frame}
use Rattle.uecp_frame.specs.Address.{reaches}
use Rattle.reply_ring.specs.Ring.{newest}
use Rattle.uecp_encoder.specs.Target.{Step}
use Rattle.uecp_encoder.specs.State.{EncoderState, opening, next_after}
use Rattle.uecp_encoder.specs.Answering.{Response, Replied, NotForMe, Unnumbered, NotNext, Dropped, response_to}
use Rattle.uecp_encoder.specs.Laws.{Happening, Finds, Becomes, after_happening, after_happenings}

-- ---- What comes.

-- whether a frame brings a message to an encoder at this address: it reaches it, and its counter is not 00
abbrev pub is_message_to : (address : ℕ) → Frame → Bool
is_message_to address f = reaches f.address address && not (f.counter == 0)

-- the frames that do, one after another
abbrev pub messages_to : {V : Type 0} → (address : ℕ) → List (Happening V) → List Frame
messages_to address [] = []
messages_to address (Finds (Ok f) ∷ hs) = if is_message_to address f then f
    ∷ messages_to address hs else messages_to address hs
messages_to address (Finds (Err fault) ∷ hs) = messages_to address hs
messages_to address (Becomes value counts part ∷ hs) = messages_to address hs

-- Messages of a pass: each is empty, and its counter is no lower than that of the one before, the first's no lower than
-- this one. Of 01, 02 .. FF any may be missing, and one may come more than once before a higher one does.
abbrev pub IsPass : (least : ℕ) → List Frame → Type 0
IsPass least [] = Unit {0}
IsPass least (f ∷ fs) = (f.message ≡ []) × (least ≤ f.counter) × IsPass f.counter fs

-- ---- What is answered.

-- the counter, where the response is a reply
abbrev pub counter_replied : (counter : ℕ) → Response → List ℕ
counter_replied counter (Replied bytes fresh) = counter ∷ []
counter_replied counter NotForMe = []
counter_replied counter Unnumbered = []
counter_replied counter NotNext = []
counter_replied counter (Dropped fault) = []

-- the counter of the message that a happening brings, if it gets a reply
abbrev pub replied_in : {V : Type 0} → Step V → EncoderState V → Happening V → List ℕ
replied_in step e (Finds (Ok f)) = counter_replied f.counter (response_to step e (Ok f))
replied_in step e (Finds (Err fault)) = []
replied_in step e (Becomes value counts part) = []

-- the counters of the messages that got a reply, one after another
abbrev pub counters_replied : {V : Type 0} → Step V → EncoderState V → List (Happening V) → List ℕ
counters_replied step e [] = []
counters_replied step e (h ∷ hs) = replied_in step e h ++ counters_replied step (after_happening step e h) hs

-- ---- What it comes to.

-- the target's value after happenings, had no message come: the last that it became otherwise
abbrev pub value_without : {V : Type 0} → V → List (Happening V) → V
value_without v [] = v
value_without v (Finds finding ∷ hs) = value_without v hs
value_without v (Becomes value counts part ∷ hs) = value_without value hs

-- So many sequence counters downwards from this one, as the kept replies have them behind a pass: the newest first.
abbrev pub falling : (first many : ℕ) → List ℕ
falling first zero = []
falling first (suc many) = first ∷ falling (first - 1) many

-- The messages among these happenings left the target as it would be without them; the encoder keeps replies to FF, FE
-- .. 81 and no other; and the next is 01.
pub record HasJoined {V : Type 0} (step : Step V) (e : EncoderState V) (hs : List (Happening V)) : Type 0 where
  pub value : (after_happenings step e hs).value ≡ value_without e.value hs
  pub kept : map (λ pair. pair.0) (after_happenings step e hs).ring ≡ falling 0xFF 127
  pub next : next_after (newest (after_happenings step e hs).ring) ≡ 1

-- Where an empty message leaves the target as it is: whatever happened to an encoder since it was new, a pass of empty
-- messages in which both 81 and FF got a reply brings it to the end of the counters. Any other may be lost, its reply
-- too, and anything else may happen in between.
abbrev pub Joins : {V : Type 0} → Step V → Type 0
Joins {V} step =
    ((v : V) → (step v []).0 ≡ v) →
    (address : ℕ) (value : V) (before pass : List (Happening V)) →
    let e : EncoderState V = after_happenings step (opening address value) before in
    IsPass 1 (messages_to address pass) →
    Contains (counters_replied step e pass) 0x81 → Contains (counters_replied step e pass) 0xFF →
    HasJoined step e pass

-- So many sequence counters upwards from this one, as the messages of a pass are numbered.
abbrev pub rising : (first many : ℕ) → List ℕ
rising first zero = []
rising first (suc many) = first ∷ rising (first + 1) many

-- Whatever happened to an encoder since it was new, of a pass of which no message is lost each from 81 on gets a reply.
abbrev pub WholePassIsReplied : {V : Type 0} → Step V → Type 0
WholePassIsReplied {V} step =
    (address : ℕ) (value : V) (before pass : List (Happening V)) (counter : ℕ) →
    map (λ f. f.counter) (messages_to address pass) ≡ rising 0x01 255 →
    0x81 ≤ counter → counter ≤ 0xFF →
    Contains (counters_replied step (after_happenings step (opening address value) before) pass) counter
