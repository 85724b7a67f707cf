-- What a run of the job `server` whose state is kept did with its input, and what a crash leaves of it (profile).
use Rattle.std.specs.Prelude.{◌≡◌, ◌⊎◌, ℕ, ◌+◌, ◌≤◌, Bool, true, false, List, [], length, Option, Ok}
use Rattle.uecp_text.specs.declared.run_fault.RunFault.{RunFault}
use Rattle.uecp_text.specs.Input.{texts_of}
use Rattle.uecp_text.specs.Run.{IsInput}
use Rattle.uecp_link.specs.Server.{ServerState}
use Rattle.uecp_net.specs.Sending.{SenderOver}
use Rattle.uecp_jobs.specs.Messages.{messages_first, refusal_in}
use Rattle.uecp_net.specs.declared.saved.keep.Progress.{Progress}
use Rattle.uecp_net.specs.Keeping.{KeptServer, kept_of}
use Rattle.uecp_net.specs.SavedJoining.{Joins}
use Rattle.uecp_net.specs.Laws.{Lives}
use Rattle.kept_jobs.specs.declared.stop.KeptStop.{KeptStop}
use Rattle.kept_jobs.specs.declared.stop.KeptStop.TheVariants.{Run, Unanswered, StateFailed}
use Rattle.kept_jobs.specs.ServerRun.{anew, not_joined, is_due}

-- ---- The input.

-- The input was read to its end, and this is the refusal of its first line that is refused, if there is one.
abbrev pub IsReadWith : (refusal : Option RunFault) → (unread unread' : Option (List ℕ)) → Type 0
IsReadWith refusal unread unread' =
    (input : List ℕ) × IsInput unread unread' input × (refusal_in (texts_of input) ≡ refusal)

-- ---- Where all was acknowledged.

-- A crash left this of a server that had come so far, and since then took so many messages: they are taken, no message
-- waits any longer, neither of these nor of those that waited before, and the encoder is joined.
pub record HasTaken (before : Progress) (messages : ℕ) (left : KeptServer) : Type 0 where
  pub taken : left.taken ≡ before.taken + messages
  pub none_waits : left.held ≡ []
  pub joined : left.joined ≡ true

-- It left this of one that took all messages of the input, or all before the first line that is refused.
abbrev pub HasTakenInput : (unread unread' : Option (List ℕ)) → Progress → KeptServer → Type 0
HasTakenInput unread unread' before left =
    (input : List ℕ) × IsInput unread unread' input × HasTaken before (length (messages_first (texts_of input))) left

-- ---- However a run ended.

module _ {C I O K : Type 0} (opens : C → Option (I × O) → C → Type 0) (closes : C → I → O → C → Type 0)
    (remaining : I → Option (List ℕ)) (contents : O → Option (List ℕ)) (saves fails : K → KeptServer → K → Type 0) where
  -- This is what is kept of a server where its first message may be sent: the server as it was; or where its encoder is
  -- to be joined, a new one by which that was joined.
  abbrev pub IsKeptAtFirst : (due : Bool) → Progress → ServerState → KeptServer → Type 0
  IsKeptAtFirst false progress s kept = kept ≡ kept_of progress s
  IsKeptAtFirst true progress s kept =
      (begun : SenderOver C I O) × (joined : SenderOver C I O) × (begun.sender.server ≡ anew s)
      × Joins opens closes remaining contents begun joined (Ok tt)
      × (kept ≡ kept_of (record progress { joined = true }) joined.sender.server)

  -- A crash left this of a server that sent what waited and then some of so many messages, in calls of `settle_kept`
  -- and
  -- `send_kept`, each from what the one before left. So the laws of those hold of it: of each message that waited or is
  -- taken, it waits still, or its acknowledgement came.
  pub record SentSome (due : Bool) (messages : ℕ) (before : Progress) (s : ServerState) (left : KeptServer) : Type
      0 where
    pub first : KeptServer
    pub at_first : IsKeptAtFirst due before s first
    pub calls : ℕ
    pub lives : Lives opens closes remaining contents saves fails calls first left
    pub more : ℕ
    pub taken : left.taken ≡ before.taken + more
    pub most : more ≤ messages

  -- A crash left this of a run with so many messages: the server as it was; or where its encoder is to be joined, a new
  -- one that is not joined; or one that sent some of them.
  abbrev pub OutlivesMessages : (due : Bool) → (messages : ℕ) → Progress → ServerState → KeptServer → Type 0
  OutlivesMessages due messages before s left =
      (left ≡ kept_of before s)
      ⊎ ((due ≡ true) × (left ≡ kept_of (not_joined before) (anew s)))
      ⊎ SentSome due messages before s left

  -- It left this of a run: the server as it was, or what is left of one with the messages of the input, or with those
  -- before the first line that is refused.
  abbrev pub OutlivesRun : (join : Bool) → (unread unread' : Option (List ℕ)) → Progress → ServerState → KeptServer
      → Type 0
  OutlivesRun join unread unread' before s left =
      (left ≡ kept_of before s)
      ⊎ ((input : List ℕ) × IsInput unread unread' input
      × OutlivesMessages (is_due join before) (length (messages_first (texts_of input))) before s left)

-- A run whose state is kept so stops for this: that the state failed it says only where a save failed, and was the
-- last.
abbrev pub IsReasonFor : {K : Type 0} → (fails : K → KeptServer → K → Type 0) → (k' : K) → KeptStop → Type 0
IsReasonFor fails k' (Run fault) = Unit {0}
IsReasonFor fails k' Unanswered = Unit {0}
IsReasonFor {K} fails k' StateFailed = (k : K) × (kept : KeptServer) × fails k kept k'
