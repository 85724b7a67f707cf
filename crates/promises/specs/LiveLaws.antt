-- What holds of whole runs of a server whose lines come as they like: which lines it took, and what a crash leaves of
-- it (profile).
use Rattle.std.specs.Prelude.{◌≡◌, ◌⊎◌, ℕ, Bool, false, List, length, Option, Result}
use Rattle.std.specs.Io.KnownBytes.{Appends}
use Rattle.uecp_elements.specs.declared.code.Code.{Code}
use Rattle.uecp_link.specs.Server.{ServerState}
use Rattle.uecp_net.specs.Keeping.{KeptServer, IsKept}
use Rattle.kept_jobs.specs.Stops.{Went}
use Rattle.kept_jobs.specs.ServerRun.{Standing}
use Rattle.kept_jobs.specs.ServerKept.{HasTaken}
use Rattle.line_feed.specs.declared.feed.Next.{Next}
use Rattle.line_feed.specs.declared.feed_fault.FeedFault.{FeedFault}
use Rattle.line_feed.specs.declared.feed_fault.NotKept.{NotKept}
use Rattle.line_feed.specs.Lines.{Refusal}
use Rattle.line_batches.specs.declared.intake.Given.{Given}
use Rattle.line_batches.specs.declared.taking.After.{After}
use Rattle.line_batches.specs.Intake.{FeedIntake, messages_in}
use Rattle.sending.specs.declared.options.LiveOptions.{LiveOptions}
use Rattle.sending.specs.declared.options.RunOptions.{RunOptions}
use Rattle.sending.specs.Run.{Live, LivesFrom, Lives}
use Rattle.sending.specs.Sources.{FromFeed}
use Rattle.promises.specs.Taken.{TakesSome, TakesAll, AreBatches}
use Rattle.promises.specs.Left.{OutlivesLive}
use Rattle.promises.specs.LiveTold.{TellsAll, IsStatusOf}
use Rattle.notices.specs.Told.{Told}

-- ---- Wherever batches come from.

module _ {T C I O K : Type 0} (takes : (size : ℕ) → (messages : List (List ℕ)) → After → T → T → Type 0)
    (opens : C → Option (I × O) → C → Type 0) (closes : C → I → O → C → Type 0)
    (remaining : I → Option (List ℕ)) (contents : O → Option (List ℕ)) (leaves : K → KeptServer → Type 0)
    (is_clean : K → Type 0) (saves fails : K → KeptServer → K → Type 0) where
  -- However a run ended it took its batches one after another, each from where the one before ended, and between two of
  -- them nothing was taken.
  abbrev pub InBatches : Type 0
  InBatches =
      (options : RunOptions) (c c' : C) (x : Live T ServerState K) (k' : K) (held' : Option (List ℕ)) (taken : T)
      (applied : Bool) (went : Went) →
      LivesFrom takes opens closes remaining contents leaves is_clean saves fails options c c' x k' held' taken applied
      went → (batches : List (List (List ℕ))) × AreBatches (takes options.size) batches x.takes taken

-- ---- Where they come from a feed.

-- the status of a run that came to its end
abbrev pub IsDone : (status : ℕ) → Type 0
IsDone status = (status ≡ 0) ⊎ (status ≡ 1) ⊎ (status ≡ 4)

-- what a run takes its batches from: a feed of which so much is not taken, that is asked for lines and whether one is
-- there
module _ {D C I O K : Type 0} (unread : D → Option (List ℕ))
    (takes : D → Result Next FeedFault → List ℕ → D → Type 0) (says : D → Bool → D → Type 0)
    (passes : D → Refusal → Result (Unit {0}) NotKept → D → Type 0)
    (opens : C → Option (I × O) → C → Type 0) (closes : C → I → O → C → Type 0)
    (remaining : I → Option (List ℕ)) (contents : O → Option (List ℕ)) (leaves : K → KeptServer → Type 0)
    (is_clean : K → Type 0) (saves fails : K → KeptServer → K → Type 0) where
  -- A run that came to its end took all lines up to that of its input, and what they gave is kept: of what was kept as
  -- the server was at the start, whatever a crash leaves then is joined, counts as taken the messages of these lines
  -- besides those of before, and none waits.
  abbrev pub DoneIsKept : Type 0
  DoneIsKept =
      (options : LiveOptions) (c c' : C) (x : Standing ServerState K) (k' : K)
      (held' : Option (List ℕ)) (feed feed' : D) (said said' : Told) (status : ℕ) →
      Lives unread takes says passes opens closes remaining contents leaves is_clean saves fails options c c' x k' held'
      feed
      feed' said said' status → IsDone status →
      (lines : List (List ℕ × Given)) × TakesAll options (unread feed) (unread feed') said lines
      × (IsKept (leaves x.keeper) x.progress x.runs → is_clean k' → (left : KeptServer) → leaves k' left →
      HasTaken x.progress (length (messages_in lines)) left)

  -- However a run ended it took some lines of its input, and of what was kept as the server was at the start a crash
  -- leaves what it may of a run with the messages of these lines.
  abbrev pub WhatACrashLeaves : Type 0
  WhatACrashLeaves =
      (options : LiveOptions) (c c' : C) (x : Standing ServerState K) (k' : K)
      (held' : Option (List ℕ)) (feed feed' : D) (said said' : Told) (status : ℕ) →
      Lives unread takes says passes opens closes remaining contents leaves is_clean saves fails options c c' x k' held'
      feed
      feed' said said' status →
      (lines : List (List ℕ × Given)) × TakesSome options (unread feed) (unread feed') said lines
      × (IsKept (leaves x.keeper) x.progress x.runs → is_clean k' → (left : KeptServer) → leaves k' left →
      OutlivesLive opens closes remaining contents saves fails options x.progress x.runs (length (messages_in lines))
      left)

  -- A run that came to its end took all lines up to that of its input; and it told of each message that these gave one
  -- line, in order and under its number, and nothing else but of the server and its encoder, which without `rejoin` is
  -- taken for a new one at no time; and its status says how that went. In JSON an answer tells the message too.
  abbrev pub ToldIsTaken : Type 0
  ToldIsTaken =
      (options : LiveOptions) (c c' : C) (x : Standing ServerState K) (k' : K)
      (held' : Option (List ℕ)) (feed feed' : D) (said said' : Told) (status : ℕ) →
      Lives unread takes says passes opens closes remaining contents leaves is_clean saves fails options c c' x k' held'
      feed
      feed' said said' status → IsDone status →
      (lines : List (List ℕ × Given)) × TakesAll options (unread feed) (unread feed') said lines
      × (answers : List (Option Code)) × (text : List ℕ) × (length answers ≡ length (messages_in lines))
      × ((again : ℕ) × (options.rejoin ≡ false → again ≡ 0)
      × TellsAll options x.progress x.runs again (messages_in lines) answers text)
      × Appends x.held held' text
      × IsStatusOf lines answers status

  -- However a run ended it took its lines batch by batch, one after another, and between two batches nothing was taken
  -- of the feed, and nothing asked of it.
  abbrev pub TakenInBatches : Type 0
  TakenInBatches =
      (options : LiveOptions) (c c' : C) (x : Standing ServerState K) (k' : K)
      (held' : Option (List ℕ)) (feed feed' : D) (said said' : Told) (status : ℕ) →
      Lives unread takes says passes opens closes remaining contents leaves is_clean saves fails options c c' x k' held'
      feed
      feed' said said' status →
      (batches : List (List (List ℕ))) × (last : FeedIntake D)
      × AreBatches
      (FromFeed unread takes says passes options.reading.input options.reading.strict options.reading.size) batches
      (record { feed = feed; lines = options.lines_before; refused = false; said = said }) last
      × (feed' ≡ last.feed)
