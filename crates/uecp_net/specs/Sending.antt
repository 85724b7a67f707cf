-- A server with its connection as one value, and how it goes on connections; a reader has to believe it. Source:
-- profile.
use Rattle.std.specs.Prelude.{◌≡◌, ◌≢◌, ◌⊎◌, ℕ, ◌+◌, ◌-◌, ◌<◌, ◌≤◌, zero, suc, Bool, true, false, nat_lt, ◌&&◌, List}
use Rattle.std.specs.Prelude.{[], ◌∷◌, ◌++◌, length, map, Option, Some, None, IsSome, Result, Ok, Err}
use Rattle.uecp_frame.specs.Findings.{Closed}
use Rattle.uecp_encoder.specs.Metered.{Metered}
use Rattle.uecp_link.specs.declared.driving.DriveFault.{DriveFault}
use Rattle.uecp_link.specs.declared.driving.DriveFault.TheVariants as drive
use Rattle.uecp_elements.specs.declared.code.Code.{Code}
use Rattle.uecp_link.specs.declared.window.Windowed.{Windowed}
use Rattle.uecp_link.specs.declared.window.Windowed.TheVariants.{Idle, Spent}
use Rattle.uecp_link.specs.Server.{ServerState, submitted, waiting, waits_for, counters_waiting, raised_by}
use Rattle.uecp_link.specs.Window.{Windows, code_under}
use Rattle.uecp_net.specs.declared.sender.TwoEnds.{TwoEnds}
use Rattle.uecp_net.specs.declared.sender.Outstanding.{Outstanding}
use Rattle.uecp_net.specs.declared.sender.Outstanding.TheVariants as out

-- The server; how many tries and turns each connection has; how many reconnects are left; and whether one is made also
-- where tries were spent, as on a silent line.
pub record SenderState : Type 0 where
  pub server : ServerState
  pub tries : ℕ
  pub turns : ℕ
  pub left : ℕ
  pub reconnect_silent : Bool

-- A sender with where its connections come from, by the name of the loan under which it has that, and the two ends of
-- the connection that it has, if it has one.
pub record SenderOver (C I O : Type 0) : Type 0 where
  pub sender : SenderState
  pub connect : C
  pub loan : ℕ
  pub ends : Option (TwoEnds I O)

-- ---- What its connections did, and nothing else: each step is an equation of all that the sender is.

-- Marks are the counters and codes of acknowledgements, in the order in which they came.
abbrev pub Marks : Type 0
Marks = List (ℕ × Code)

-- A device in a meter that was not called yet.
abbrev pub unused : {D : Type 0} → D → Metered D
unused device = record { device = device; calls = 0; failures = 0; empty = 0 }

-- A connection was opened: the sender has its two ends, which are unused, and what the connection before left open is
-- forgotten.
abbrev pub Opens : {C I O : Type 0} → (opens : C → Option (I × O) → C → Type 0) → SenderOver C I O → SenderOver C I O
    → Type 0
Opens {C} {I} {O} opens s s' =
    (input : I) × (output : O) × opens s.connect (Some (input, output)) s'.connect
    × (s' ≡ record s {
      sender = record s.sender { server = record s.sender.server { part = Closed } };
      connect = s'.connect;
      ends = Some (record { input = unused input; output = unused output });
    })

-- The sender had no connection, and there was none to be had.
abbrev pub OpensNone : {C I O : Type 0} → (opens : C → Option (I × O) → C → Type 0) → SenderOver C I O
    → SenderOver C I O → Type 0
OpensNone opens s s' = (s.ends ≡ None) × opens s.connect None s'.connect × (s' ≡ record s { connect = s'.connect })

-- The sender goes on over the connection that it has, and over a new one only where it has none.
abbrev pub GoesOn : {C I O : Type 0} → (opens : C → Option (I × O) → C → Type 0) → SenderOver C I O → SenderOver C I O
    → Type 0
GoesOn opens s s' = (IsSome s.ends × (s' ≡ s)) ⊎ ((s.ends ≡ None) × Opens opens s s')

-- A server with the two ends of a connection, and the marks so far.
pub record Underway (I O : Type 0) : Type 0 where
  pub server : ServerState
  pub input : Metered I
  pub output : Metered O
  pub marks : Marks

-- One call of `send_window` with so many turns.
abbrev pub Calls : {I O : Type 0} → (I → Option (List ℕ)) → (O → Option (List ℕ)) → (turns : ℕ)
    → (old new : Underway I O) → Result Windowed DriveFault → Type 0
Calls remaining contents turns u u' result =
    Windows remaining contents u.server u'.server u.input u'.input u.output u'.output u.marks u'.marks turns result

-- So many calls of `send_window` on one connection, over its reader and writer and with the same marks, after each of
-- which messages waited and nothing had failed.
abbrev pub SpentCalls : {I O : Type 0} → (I → Option (List ℕ)) → (O → Option (List ℕ)) → (turns calls : ℕ)
    → (old new : Underway I O) → Type 0
SpentCalls remaining contents turns zero u u' = u' ≡ u
SpentCalls {I} {O} remaining contents turns (suc n) u u' =
    (between : Underway I O) × SpentCalls remaining contents turns n u between
    × Calls remaining contents turns between u' (Ok Spent)

-- How the calls on one connection went, with so many tries of so many turns. Acknowledged: the last of n calls, which
-- are as many as are allowed or fewer, left no message waiting. Every try spent: so many calls, and messages wait. Else
-- a call failed.
abbrev pub Tried : {I O : Type 0} → (I → Option (List ℕ)) → (O → Option (List ℕ)) → (tries turns : ℕ)
    → (old new : Underway I O) → Result ℕ DriveFault → Type 0
Tried {I} {O} remaining contents tries turns u u' (Ok n) =
    (before : ℕ) × (between : Underway I O) × (n ≡ before + 1) × (n ≤ tries)
    × SpentCalls remaining contents turns before u between × Calls remaining contents turns between u' (Ok Idle)
Tried remaining contents tries turns u u' (Err drive.TriesSpent) = SpentCalls remaining contents turns tries u u'
Tried {I} {O} remaining contents tries turns u u' (Err fault) =
    (before : ℕ) × (between : Underway I O) × (before < tries)
    × SpentCalls remaining contents turns before u between × Calls remaining contents turns between u' (Err fault)

-- These two ends, with the server that the sender has and the marks so far.
abbrev pub underway : {C I O : Type 0} → SenderOver C I O → TwoEnds I O → Marks → Underway I O
underway s ends marks = record { server = s.sender.server; input = ends.input; output = ends.output; marks = marks }

-- On one connection, that which the sender has or a new one: the calls of `send_window` did this over its two ends,
-- which the sender still has, as the calls left them.
pub record Attempts {C I O : Type 0} (opens : C → Option (I × O) → C → Type 0) (remaining : I → Option (List ℕ))
    (contents : O → Option (List ℕ)) (old new : SenderOver C I O) (marks marks' : Marks)
    (result : Result ℕ DriveFault) : Type 0 where
  pub start : SenderOver C I O
  pub ends : TwoEnds I O
  pub ends' : TwoEnds I O
  pub goes_on : GoesOn opens old start
  pub has : start.ends ≡ Some ends
  pub went : Tried remaining contents start.sender.tries start.sender.turns (underway start ends marks)
      (underway new ends' marks') result
  pub leaves : new ≡ record start { sender = record start.sender { server = new.sender.server }; ends = Some ends' }

-- Why messages are outstanding where a connection ended so and there is no other.
abbrev pub reason_of : DriveFault → Outstanding
reason_of (drive.WriteFailed written) = out.ConnectionFailed
reason_of drive.Closed = out.ConnectionFailed
reason_of drive.TriesSpent = out.TriesSpent

-- Whether a sender opens another connection where one ended for this reason: a reconnect is left, and the connection
-- broke, or a silent one leads to another too.
abbrev pub opens_another : SenderState → Outstanding → Bool
opens_another s out.ConnectionFailed = nat_lt 0 s.left
opens_another s out.TriesSpent = s.reconnect_silent && nat_lt 0 s.left

-- The sender hangs up: the two ends of the connection that it has, if it has one, go back to where connections come
-- from, as they are.
abbrev pub HangsUp : {C I O : Type 0} → (closes : C → I → O → C → Type 0) → SenderOver C I O → SenderOver C I O → Type 0
HangsUp {C} {I} {O} closes s s' =
    ((s.ends ≡ None) × (s' ≡ s))
    ⊎ ((ends : TwoEnds I O) × (s.ends ≡ Some ends) × closes s.connect ends.input.device ends.output.device s'.connect
    × (s' ≡ record s { connect = s'.connect; ends = None }))

-- the sender with one reconnect fewer left
abbrev pub reconnecting : {C I O : Type 0} → SenderOver C I O → SenderOver C I O
reconnecting s = record s { sender = record s.sender { left = s.sender.left - 1 } }

-- the sender while its ends are taken out (private)
abbrev pub without_ends : {C I O : Type 0} → SenderOver C I O → SenderOver C I O
without_ends s = record s { ends = None }

-- The messages that wait were sent over one connection after another, from one state of the sender to another; the
-- marks of one are kept for the next. First so many connections ended with messages that wait, each for a reason after
-- which another is opened: it was hung up, and cost a reconnect. Then came the last acknowledgement, after so many
-- calls on this connection; or there was no connection to be had, and the reason is that of the one before, or this
-- where there was none; or one more ended so, for a reason after which no other is opened.
abbrev pub Delivers : {C I O : Type 0} → (opens : C → Option (I × O) → C → Type 0) → (closes : C → I → O → C → Type 0)
    → (remaining : I → Option (List ℕ)) → (contents : O → Option (List ℕ)) → (ended : ℕ) → (before : Outstanding)
    → (old new : SenderOver C I O) → (marks marks' : Marks) → Result ℕ Outstanding → Type 0
Delivers {C} {I} {O} opens closes remaining contents (suc n) before s s' marks marks' result =
    (fault : DriveFault) × (last : SenderOver C I O) × (next : SenderOver C I O) × (some : Marks)
    × Attempts opens remaining contents s last marks some (Err fault) × HangsUp closes last next
    × (opens_another next.sender (reason_of fault) ≡ true)
    × Delivers opens closes remaining contents n (reason_of fault) (reconnecting next) s' some marks' result
Delivers opens closes remaining contents zero before s s' marks marks' (Ok calls) =
    Attempts opens remaining contents s s' marks marks' (Ok calls)
Delivers {C} {I} {O} opens closes remaining contents zero before s s' marks marks' (Err reason) =
    (OpensNone opens s s' × (marks' ≡ marks) × (reason ≡ before))
    ⊎ ((fault : DriveFault) × (last : SenderOver C I O)
    × Attempts opens remaining contents s last marks marks' (Err fault) × HangsUp closes last s'
    × (opens_another s'.sender (reason_of fault) ≡ false) × (reason ≡ reason_of fault))

-- How it went on one connection, or there was none to be had (private).
abbrev pub Goes : {C I O : Type 0} → (opens : C → Option (I × O) → C → Type 0) → (remaining : I → Option (List ℕ))
    → (contents : O → Option (List ℕ)) → (old new : SenderOver C I O) → (marks marks' : Marks)
    → Option (Result ℕ DriveFault) → Type 0
Goes opens remaining contents s s' marks marks' (Some went) = Attempts opens remaining contents s s' marks marks' went
Goes opens remaining contents s s' marks marks' None = OpensNone opens s s' × (marks' ≡ marks)

-- The messages that wait have these codes, in order: each that of the first mark with its counter.
abbrev pub AreTold : ServerState → Marks → List Code → Type 0
AreTold s marks told = map Some told ≡ map (λ counter. code_under counter marks) (counters_waiting s)

-- ---- What is left of the server.

-- The messages that waited are all acknowledged: nothing is held, and so many acknowledgements more are counted. Of the
-- rest only the other counts and the open part may have changed.
abbrev pub AreFreed : ServerState → ServerState → Type 0
AreFreed old new = new ≡ record old {
  held = [];
  counts = record new.counts { acknowledged = raised_by (length (waiting old)) old.counts.acknowledged };
  part =
      new.part;
}

-- Messages are outstanding: some message waits, and the address and the last counter are as before.
abbrev pub StillWait : ServerState → ServerState → Type 0
StillWait old new = (new.held ≢ []) × (new.address ≡ old.address) × (new.last ≡ old.last)

-- What one state of a server and the marks so far have become (private): these marks came to those before, each is one
-- message that waits no more, and is counted, and each message that waits no more has one.
pub record Follows (old new : ServerState) (marks marks' : Marks) : Type 0 where
  pub more : Marks
  pub marked : marks' ≡ marks ++ more
  pub address : new.address ≡ old.address
  pub last : new.last ≡ old.last
  pub counted : new.counts.acknowledged ≡ raised_by (length more) old.counts.acknowledged
  pub number : length more + length (waiting new) ≡ length (waiting old)
  pub complete : (counter : ℕ) → waits_for (waiting old) counter ≡ true → waits_for (waiting new) counter ≡ false
      → IsSome (code_under counter more)

-- ---- What is submitted.

-- the sender once a message is submitted: its connection stays as it is
abbrev pub submitted_to : {C I O : Type 0} → SenderOver C I O → (message : List ℕ) → SenderOver C I O
submitted_to s message = record s { sender = record s.sender { server = submitted s.sender.server message } }

-- the sender once these messages are submitted, one after another
abbrev pub submitted_all : {C I O : Type 0} → SenderOver C I O → (messages : List (List ℕ)) → SenderOver C I O
submitted_all s [] = s
submitted_all s (message ∷ messages) = submitted_all (submitted_to s message) messages
