-- The laws of a station. Source: profile.
use Rattle.std.specs.Prelude.{◌≡◌, ◌≢◌, ℕ, ◌<◌, ◌≤◌, true, List, [], ◌++◌, length, is_none, Option, Some, Ok}
use Rattle.uecp_elements.specs.declared.code.Code.{Code}
use Rattle.uecp_elements.specs.declared.code.Code.TheVariants.{Applied}
use Rattle.std.specs.List.{AllByRecursion}
use Rattle.rds_store.specs.Value.{Store}
use Rattle.rds_store.specs.Step.{step as store_step, group_taken}
use Rattle.uecp_encoder.specs.Target.{Step, Taken}
use Rattle.uecp_encoder.specs.State.{EncoderState, opening, fed}
use Rattle.uecp_encoder.specs.Answering.{answers}
use Rattle.uecp_encoder.specs.Laws.{Happening, after_happenings}
use Rattle.uecp_link.specs.Joining.{sent_behind, BringsBoth}
use Rattle.uecp_frame.specs.Findings.{Closed}
use Rattle.uecp_link.specs.Once.{Event, Once, at_first, refusal_of, answer_of}
use Rattle.uecp_link.specs.History.{history}
use Rattle.uecp_link.specs.Law.{run, start_from, Fits}
use Rattle.uecp_link.specs.Window.{marks_in, code_under}
use Rattle.uecp_link.specs.Kept.{IsReady}
use Rattle.uecp_link.specs.Holds.{LineState, Outcome, Plays, history_by, line_from}
use Rattle.store_phrases.specs.Laws.{messages_of, AreAlike}
use Rattle.promises.specs.StationTold.{told_by, told_over, IsAcknowledged}
use Rattle.uecp_net.specs.Sending.{SenderOver}
use Rattle.sending.specs.Station.{MakesStation}
use Rattle.promises.specs.Sent.{IsOut}
use Rattle.promises.specs.Heard.{bytes_to_server, marks_of}
use Rattle.promises.specs.Made.{takes_in, IsMade, IsTold}
use Rattle.promises.specs.Alike.{AgreeAsTold, AreSameButGroups}

-- Law: once each message of a station is told to be acknowledged with 00, the encoder's store is what they make of the
-- one that it had.
abbrev pub StationMade : {V : Type 0} → Step V → Taken V → Type 0
StationMade {V} step taken =
    (e : EncoderState V) → IsReady e.ring → e.part ≡ Closed
    → (station : List (List ℕ)) (events : List Event) (outcomes : List Outcome) (line : LineState V)
    → IsAcknowledged step taken e station events outcomes line
    → IsMade step taken e.value station (history_by events outcomes) line

-- Law: where they are the messages that tell a store, and the encoder's is alike, it is the store that is told then:
-- its services, its sets, their texts and the current set, and the groups that wait but those that were taken. So where
-- none was taken, it is that very store.
abbrev pub SaidStationMade : Type 0
SaidStationMade =
    (v : Store) (e : EncoderState Store) → IsReady e.ring → e.part ≡ Closed → AreAlike v e.value
    → (events : List Event) (outcomes : List Outcome) (line : LineState Store)
    → IsAcknowledged store_step group_taken e (messages_of v) events outcomes line
    → IsTold v e.value (takes_in (history_by events outcomes)) line.encoder.value

-- Law: and such an encoder answers each of these messages with 00, whatever happens, and however many of them were sent
-- so far: a store that is told is never refused.
abbrev pub SaidStationIsApplied : Type 0
SaidStationIsApplied =
    (v : Store) (e : EncoderState Store) → IsReady e.ring → e.part ≡ Closed → AreAlike v e.value
    → (events : List Event) (outcomes : List Outcome) (line : LineState Store) (once : Once Store)
    → Plays store_step group_taken (line_from e) (at_first e.value) events outcomes line once
    → (unsent : List (List ℕ)) → line.sent ++ unsent ≡ messages_of v
    → (k : ℕ) (code : Code) → code_under k (told_over events outcomes) ≡ Some code → code ≡ Applied

-- Law: so it is over one connection that keeps the order of each direction and loses nothing but its end. A pass comes
-- to an encoder with nothing open, whatever happened to it since it was new, and what was read of its replies brings
-- both; then a line begins, and the store that is told is the encoder's, whatever that was before the pass.
abbrev pub JoinedThenTold : Type 0
JoinedThenTold =
    (address behind : ℕ) (first : Store) (before : List (Happening Store)) (got coming read unread : List ℕ) →
    let e : EncoderState Store = after_happenings store_step (opening address first) before in
    e.part ≡ Closed → behind ≤ 0xFE → got ++ coming ≡ sent_behind address behind
    → read ++ unread ≡ answers store_step e got
    → BringsBoth address read
    → (v : Store) → AreAlike v e.value → (events : List Event) (outcomes : List Outcome) (line : LineState Store)
    → IsAcknowledged store_step group_taken (fed store_step e got) (messages_of v) events outcomes line
    → IsTold v e.value (takes_in (history_by events outcomes)) line.encoder.value

-- Law: so it is by the definitions alone, of two ends that are fed nothing but the bytes of any events, once each of
-- these messages is acknowledged.
abbrev pub ToldByEvents : Type 0
ToldByEvents =
    (v : Store) (e : EncoderState Store) → IsReady e.ring → e.part ≡ Closed → AreAlike v e.value
    → (events : List Event) → AllByRecursion Fits events
    → let w = run store_step group_taken e.address (start_from e) events in
    w.once.sent ≡ messages_of v → ((k : ℕ) → k < length (messages_of v) → w.once.acknowledged k ≡ true)
    → IsTold v e.value (takes_in (history store_step group_taken (at_first e.value) events)) w.encoder.value

-- Law: of two encoders that are alike, and to which the same store was told, each over its own line, the stores are the
-- same then but for the groups that wait, whatever they were before; and where groups were told, and none was taken,
-- these too.
abbrev pub StationIsIndependent : Type 0
StationIsIndependent =
    (v : Store) (e f : EncoderState Store) → IsReady e.ring → e.part ≡ Closed → IsReady f.ring → f.part ≡ Closed
    → AreAlike v e.value → AreAlike v f.value
    → (es fs : List Event) (os ps : List Outcome) (l m : LineState Store)
    → IsAcknowledged store_step group_taken e (messages_of v) es os l
    → IsAcknowledged store_step group_taken f (messages_of v) fs ps m
    → AreSameButGroups l.encoder.value m.encoder.value
    × (v.groups ≢ [] → takes_in (history_by es os) ≡ 0 → takes_in (history_by fs ps) ≡ 0
    → l.encoder.value ≡ m.encoder.value)

-- Law: of any station this is left. Two encoders that are alike, with the same current set, and to which its messages
-- were told, have at each place the same of what these say, and of what they leave unsaid each has what it had.
abbrev pub StationSaysTheSame : Type 0
StationSaysTheSame =
    (e f : EncoderState Store) → IsReady e.ring → e.part ≡ Closed → IsReady f.ring → f.part ≡ Closed
    → AreAlike e.value f.value → e.value.current ≡ f.value.current
    → (station : List (List ℕ)) (es fs : List Event) (os ps : List Outcome) (l m : LineState Store)
    → IsAcknowledged store_step group_taken e station es os l
    → IsAcknowledged store_step group_taken f station fs ps m
    → AgreeAsTold e.value f.value l.encoder.value m.encoder.value

-- Law: from an encoder that is ready and a new server, whatever happened: what the server marks of the bytes that an
-- event brings it is what the line tells by that event, the code of the number under the number's counter.
abbrev pub ToldIsMarked : {V : Type 0} → Step V → Taken V → Type 0
ToldIsMarked {V} step taken =
    (e : EncoderState V) → IsReady e.ring → e.part ≡ Closed → (events : List Event) → AllByRecursion Fits events
    → (event : Event)
    → let w = run step taken e.address (start_from e) events in
    is_none (refusal_of w.once event) ≡ true
    → marks_in w.server (bytes_to_server e.address w.once event)
    ≡ marks_of (told_by event (answer_of step taken w.once event))

-- Law: where `send` made a station, it went out so.
abbrev pub StationIsOut : {C I O : Type 0} → (opens : C → Option (I × O) → C → Type 0)
    → (closes : C → I → O → C → Type 0) → (remaining : I → Option (List ℕ)) → (contents : O → Option (List ℕ)) → Type 0
StationIsOut {C} {I} {O} opens closes remaining contents =
    (size : ℕ) (station : List (List ℕ)) (told : List Code) (s s' : SenderOver C I O)
    → MakesStation opens closes remaining contents size station told s s' (Ok tt)
    → IsOut opens closes remaining contents station told s s'
