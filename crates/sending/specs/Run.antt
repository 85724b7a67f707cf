-- What a server does whose state is kept, wherever its batches come from, and how it ends (profile).
use Rattle.std.specs.Prelude.{◌≡◌, ◌≢◌, ◌⊎◌, ℕ, zero, suc, ◌+◌, ◌-◌, ◌^◌, ◌≤◌, Bool, true, false, ◌&&◌, List, []}
use Rattle.std.specs.Prelude.{length, map, Option, Result, Ok, Err, if◌then◌else◌}
use Rattle.std.specs.List.{list_all}
use Rattle.uecp_text.specs.declared.run_fault.RunFault.{RunFault}
use Rattle.uecp_text.specs.declared.run_fault.RunFault.TheVariants as run
use Rattle.uecp_link.specs.declared.counts.ServerCounts.{ServerCounts}
use Rattle.uecp_link.specs.Server.{ServerState, idle_at, waiting}
use Rattle.uecp_net.specs.declared.sender.Outstanding.TheVariants.{TriesSpent, ConnectionFailed}
use Rattle.uecp_net.specs.declared.sender.Settled.{Settled}
use Rattle.uecp_net.specs.Sending.{SenderOver, submitted_all}
use Rattle.uecp_jobs.specs.ServerRun.{Finishes}
use Rattle.uecp_net.specs.declared.saved.batch.KeptOutstanding.TheVariants as kept
use Rattle.uecp_net.specs.Keeping.{KeptServer, kept_of, IsKept}
use Rattle.uecp_net.specs.SavedSending.{Ended}
use Rattle.kept_jobs.specs.declared.stop.KeptStop.{KeptStop}
use Rattle.kept_jobs.specs.declared.stop.KeptStop.TheVariants.{Run, StateFailed}
use Rattle.kept_jobs.specs.Stops.{Went, TellsKept, Then, stop_for, stop_status, stop_lines}
use Rattle.kept_jobs.specs.ServerRun.{Standing, SettlesOne, SendsOne, sending, is_due}
use Rattle.kept_jobs.specs.ServerRun.{not_joined}
use Rattle.output_forms.specs.declared.form.Form.{Form}
use Rattle.sending.specs.declared.account.Account.{Account}
use Rattle.sending.specs.declared.account.Account.TheVariants.{Numbered}
use Rattle.sending.specs.declared.course.Course.{Course}
use Rattle.sending.specs.declared.options.LiveOptions.{LiveOptions}
use Rattle.sending.specs.declared.options.RunOptions.{RunOptions}
use Rattle.sending.specs.Hands.{Telling}
use Rattle.sending.specs.Lines.{is_applied}
use Rattle.sending.specs.Forms.{unknown_in}
use Rattle.sending.specs.Accounts.{form_of, AreReplies, AreHeld, OutstandingTold}
use Rattle.sending.specs.Beginning.{TellsTaken, BeginsAnewIf}
use Rattle.sending.specs.Station.{MakesIf}
use Rattle.line_batches.specs.declared.taking.After.{After}
use Rattle.line_batches.specs.declared.taking.After.TheVariants.{GoesOn, Ends}
use Rattle.line_feed.specs.declared.feed.Next.{Next}
use Rattle.line_feed.specs.declared.feed_fault.FeedFault.{FeedFault}
use Rattle.line_feed.specs.declared.feed_fault.NotKept.{NotKept}
use Rattle.line_feed.specs.Lines.{Refusal}
use Rattle.line_batches.specs.Intake.{FeedIntake}
use Rattle.sending.specs.Sources.{FromFeed}
use Rattle.notices.specs.Told.{Told, Says}

-- ---- Where a run stands: what it sends, and where that is kept and told; where the taking of its batches stands;
-- whether all messages that were told were applied; how many messages are outstanding, of which nothing was told yet;
-- and what comes behind their batch, where they are one.
pub record Live (T S K : Type 0) : Type 0 where
  pub sends : Standing S K
  pub takes : T
  pub applied : Bool
  pub unknown : ℕ
  pub behind : After

-- Where it stands that has come so far: with what runs and what keeps it, what was taken, and what was told.
abbrev pub stands : {S K : Type 0} → S → K → Course → Telling → Standing S K
stands runs keeper course telling = record {
  runs = runs;
  keeper = keeper;
  progress = course.progress;
  held = telling.held;
}

abbrev pub live : {T S K : Type 0} → S → K → T → Telling → Course → Live T S K
live runs keeper taken telling course = record {
  sends = stands runs keeper course telling;
  takes = taken;
  applied = course.applied;
  unknown = course.unknown;
  behind = course.behind;
}

-- how a run went that ends so
abbrev pub ended_as : Result (Unit {0}) RunFault → Went
ended_as (Ok done) = Ok tt
ended_as (Err fault) = Err (Run fault)

-- what comes behind what is outstanding, after a turn that went so and whose batch had this after it (private)
abbrev pub behind_of : Went → (after before : After) → After
behind_of (Ok done) after before = before
behind_of (Err stop) after before = after

-- ---- One batch is sent.

-- What is told of messages that were settled so, and how the run goes on: such lines where they are acknowledged. Where
-- they are outstanding that is told, or nothing, and it stops. Where a save failed nothing is told, and it stops.
abbrev pub AnswersTold : Account → (are_told : Settled → List ℕ → Type 0) → ServerCounts → Ended
    → (held held' : Option (List ℕ)) → Went → Type 0
AnswersTold account are_told counts (Ok settled) held held' went =
    (told : List ℕ) × are_told settled told × TellsKept told (Ok tt) held held' went
AnswersTold account are_told counts (Err (kept.Outstanding reason)) held held' went =
    OutstandingTold account (Err (stop_for counts reason)) held held' went
AnswersTold account are_told counts (Err kept.StateFailed) held held' went =
    (held' ≡ held) × (went ≡ Err StateFailed)

-- the line of each of these messages, the last of which has this number, each sent under its counter, by its own reply
abbrev pub RepliesOf : Account → (last : ℕ) → (sent : List (ℕ × List ℕ)) → Settled → (told : List ℕ) → Type 0
RepliesOf account last sent settled told =
    AreReplies account (last + 1 - length settled.codes.items) sent settled told

-- of the messages that a server holds, the oldest first, whether each is marked
abbrev pub marks_in : ServerState → List Bool
marks_in s = map (λ h. h.marked) s.held

-- whether all messages that were settled so were applied, as far as they were answered
abbrev pub are_applied : Ended → Bool
are_applied (Ok settled) = list_all is_applied settled.codes.items
are_applied (Err stopped) = true

-- How many of so many messages that were settled so are unknown where the encoder is taken for a new one: all of them
-- where each try was spent, so that connections were there and not all replies came; else none, as where there was no
-- connection.
abbrev pub unknown_of : (count : ℕ) → Ended → ℕ
unknown_of count (Ok settled) = 0
unknown_of count (Err (kept.Outstanding TriesSpent)) = count
unknown_of count (Err (kept.Outstanding ConnectionFailed)) = 0
unknown_of count (Err kept.StateFailed) = 0

-- the exit status of a run that came to its end
abbrev pub tally_status : (refused applied : Bool) → ℕ
tally_status refused applied = if refused then 1 else if applied then 0 else 4

-- So a run is ended that went so, where a line was refused or none: where it came to its end the status tells that, or
-- else whether a message was refused by the encoder, and nothing is said; where it stopped, why was said.
abbrev pub EndsAs : Went → (applied refused : Bool) → (said said' : Told) → (status : ℕ) → Type 0
EndsAs went applied refused said said' status =
    ((went ≡ Ok tt) × (status ≡ tally_status refused applied) × (said' ≡ said))
    ⊎ ((stop : KeptStop) × (went ≡ Err stop) × (status ≡ stop_status stop) × Says said said' (stop_lines stop))

-- ---- What is outstanding is given up.

-- A new server is saved, not joined, in place of one of which so many messages are outstanding; and then each of
-- these, the last that were taken, is told as unknown, under its number. Or the save fails, and nothing is told.
pub record Renews {K : Type 0} (leaves : K → KeptServer → Type 0) (is_clean : K → Type 0)
    (saves fails : K → KeptServer → K → Type 0) (form : Form) (unknown : ℕ) (x x' : Standing ServerState K)
    (went : Went) : Type 0 where
  pub progress : x'.progress ≡ not_joined x.progress
  pub saved : (saves x.keeper (kept_of x'.progress x'.runs) x'.keeper
      × TellsKept (unknown_in form (x.progress.taken + 1 - unknown) unknown) (Ok tt) x.held x'.held went)
      ⊎ (fails x.keeper (kept_of x'.progress x'.runs) x'.keeper × (x'.held ≡ x.held) × (went ≡ Err StateFailed))
  pub outlives : is_clean x'.keeper → (left : KeptServer) → leaves x'.keeper left
      → leaves x.keeper left ⊎ (left ≡ kept_of x'.progress x'.runs)
  pub settled : is_clean x'.keeper → IsKept (leaves x'.keeper) x'.progress x'.runs ⊎ (went ≡ Err StateFailed)
  pub clean : is_clean x'.keeper → is_clean x.keeper

module _ {C I O K : Type 0} (opens : C → Option (I × O) → C → Type 0) (closes : C → I → O → C → Type 0)
    (remaining : I → Option (List ℕ)) (contents : O → Option (List ℕ)) (leaves : K → KeptServer → Type 0)
    (is_clean : K → Type 0) (saves fails : K → KeptServer → K → Type 0) (account : Account) where
  -- These messages were sent, as `send_kept` says, and then that was told.
  abbrev pub SendsBatch : (messages : List (List ℕ)) → (x x' : Standing (SenderOver C I O) K)
      → (applied applied' : Bool) → (unknown' : ℕ) → Went → Type 0
  SendsBatch messages x x' applied applied' unknown' went =
      (ended : Ended) × SendsOne opens closes remaining contents leaves is_clean saves fails messages ended x x'
      × AnswersTold account (RepliesOf account x'.progress.taken
      (waiting (submitted_all x.runs messages).sender.server))
      x'.runs.sender.server.counts ended x.held x'.held went
      × (applied' ≡ applied && are_applied ended) × (unknown' ≡ unknown_of (length messages) ended)

  -- They were sent so where there are some, and else nothing was done.
  abbrev pub SendsSome : (messages : List (List ℕ)) → (x x' : Standing (SenderOver C I O) K)
      → (applied applied' : Bool) → (unknown unknown' : ℕ) → Went → Type 0
  SendsSome messages x x' applied applied' unknown unknown' went =
      ((messages ≡ []) × (x' ≡ x) × (applied' ≡ applied) × (unknown' ≡ unknown) × (went ≡ Ok tt))
      ⊎ ((messages ≢ []) × SendsBatch messages x x' applied applied' unknown' went)

  -- Where messages wait they were settled, as `settle_kept` says, and then that was told; else nothing was done.
  abbrev pub SettlesLive : (x x' : Standing (SenderOver C I O) K) → (applied applied' : Bool) → (unknown unknown' : ℕ)
      → Went → Type 0
  SettlesLive x x' applied applied' unknown unknown' went =
      ((x.runs.sender.server.held ≡ []) × (x' ≡ x) × (applied' ≡ applied) × (unknown' ≡ unknown) × (went ≡ Ok tt))
      ⊎ ((x.runs.sender.server.held ≢ []) × ((ended : Ended)
      × SettlesOne opens closes remaining contents leaves is_clean saves fails ended x x'
      × AnswersTold account (AreHeld account (x'.progress.taken + 1 - length (marks_in x.runs.sender.server))
      (marks_in x.runs.sender.server) (waiting x.runs.sender.server))
      x'.runs.sender.server.counts ended x.held x'.held went
      × (applied' ≡ applied && are_applied ended)
      × (unknown' ≡ unknown_of (length (marks_in x.runs.sender.server)) ended)))

-- ---- Turns, of batches that are taken so.
module _ {T C I O K : Type 0} (takes : (messages : List (List ℕ)) → After → T → T → Type 0)
    (opens : C → Option (I × O) → C → Type 0) (closes : C → I → O → C → Type 0)
    (remaining : I → Option (List ℕ)) (contents : O → Option (List ℕ)) (leaves : K → KeptServer → Type 0)
    (is_clean : K → Type 0) (saves fails : K → KeptServer → K → Type 0) (account : Account) where
  -- One turn: a batch was taken, and then sent where it has a message; and this comes after it. Where the run stops
  -- there, it is what comes behind what is outstanding.
  pub record Turn (x x' : Live T (SenderOver C I O) K) (after : After) (went : Went) : Type 0 where
    pub messages : List (List ℕ)
    pub taken : takes messages after x.takes x'.takes
    pub sends : SendsSome opens closes remaining contents leaves is_clean saves fails account messages x.sends x'.sends
        x.applied x'.applied x.unknown x'.unknown went
    pub behind : x'.behind ≡ behind_of went after x.behind

  -- So many turns were made, one after another, each from where the one before ended, and the run goes on.
  abbrev pub GoesOnFor : (turns : ℕ) → (x x' : Live T (SenderOver C I O) K) → Type 0
  GoesOnFor zero x x' = x' ≡ x
  GoesOnFor (suc n) x x' = (y : Live T (SenderOver C I O) K) × GoesOnFor n x y × Turn y x' GoesOn (Ok tt)

  -- The last turn, after which the run ends so: for what comes after its batch; or the batch could not be sent, or what
  -- came of it not be told.
  abbrev pub LastTurn : (x x' : Live T (SenderOver C I O) K) → Went → Type 0
  LastTurn x x' went =
      ((end : Result (Unit {0}) RunFault) × Turn x x' (Ends end) (Ok tt) × (went ≡ ended_as end))
      ⊎ ((after : After) × (stop : KeptStop) × Turn x x' after (Err stop) × (went ≡ Err stop))

  -- Turns were made up to the last one. Or 2^59 were made, and no more are.
  abbrev pub RunsTurns : (x x' : Live T (SenderOver C I O) K) → Went → Type 0
  RunsTurns x x' went =
      (turns : ℕ) × (y : Live T (SenderOver C I O) K) × GoesOnFor turns x y
      × (LastTurn y x' went
      ⊎ ((turns ≡ 2 ^ 59) × (x' ≡ y) × (went ≡ Err (Run run.Reading))))

-- ---- One sender.

-- what is left of a sender that hangs up
abbrev pub ended_of : {T C I O K : Type 0} → Live T (SenderOver C I O) K → Live T ServerState K
ended_of z = record {
  sends = record {
    runs = z.sends.runs.sender.server;
    keeper = z.sends.keeper;
    progress = z.sends.progress;
    held = z.sends.held;
  };
  takes = z.takes;
  applied = z.applied;
  unknown = z.unknown;
  behind = z.behind;
}

-- where a run stands with a new server: its messages that were outstanding count as not applied, and what comes
-- behind them comes still
abbrev pub from_anew : {T K : Type 0} → Live T ServerState K → Standing ServerState K → Live T ServerState K
from_anew x y = record {
  sends = y;
  takes = x.takes;
  applied = false;
  unknown = 0;
  behind = x.behind;
}

module _ {T C I O K : Type 0} (opens : C → Option (I × O) → C → Type 0) (closes : C → I → O → C → Type 0)
    (remaining : I → Option (List ℕ)) (contents : O → Option (List ℕ)) (leaves : K → KeptServer → Type 0)
    (is_clean : K → Type 0) (saves fails : K → KeptServer → K → Type 0) where
  -- The encoder was joined and the station made, where the encoder is to be joined.
  abbrev pub MakesOnce : RunOptions → (due : Bool) → (x x' : Live T (SenderOver C I O) K) → Went → Type 0
  MakesOnce options due x x' went =
      MakesIf opens closes remaining contents leaves is_clean saves fails (form_of options.account)
      options.size options.station.now due x.sends x'.sends x.applied x'.applied went
      × (x'.takes ≡ x.takes) × (x'.unknown ≡ x.unknown) × (x'.behind ≡ x.behind)

  -- What waits was settled.
  abbrev pub SettlesOnce : RunOptions → (x x' : Live T (SenderOver C I O) K) → Went → Type 0
  SettlesOnce options x x' went =
      SettlesLive opens closes remaining contents leaves is_clean saves fails options.account x.sends x'.sends x.applied
      x'.applied x.unknown x'.unknown went
      × (x'.takes ≡ x.takes) × (x'.behind ≡ x.behind)

  -- No sender runs after these: no message is outstanding with each try spent, or an encoder is not taken for a new
  -- one, or 2^63 messages were taken, or 2^59 ran.
  abbrev pub IsLast : RunOptions → (again : ℕ) → Live T ServerState K → Type 0
  IsLast options again x =
      (x.unknown ≡ 0) ⊎ (options.rejoin ≡ false) ⊎ (2 ^ 63 ≤ x.sends.progress.taken) ⊎ (again ≡ 2 ^ 59)

-- ---- One sender, of batches of so many messages at most that are taken so.
module _ {T C I O K : Type 0} (takes : (size : ℕ) → (messages : List (List ℕ)) → After → T → T → Type 0)
    (opens : C → Option (I × O) → C → Type 0) (closes : C → I → O → C → Type 0)
    (remaining : I → Option (List ℕ)) (contents : O → Option (List ℕ)) (leaves : K → KeptServer → Type 0)
    (is_clean : K → Type 0) (saves fails : K → KeptServer → K → Type 0) where
  -- What a sender does once its encoder is joined: it settles what waits, and then makes its turns. Or the run ends so,
  -- which was found behind messages that were outstanding: nothing is settled, and no line is taken.
  abbrev pub RunsOn : RunOptions → (behind : After) → (x x' : Live T (SenderOver C I O) K) → Went → Type 0
  RunsOn options GoesOn x x' went =
      Then (SettlesOnce opens closes remaining contents leaves is_clean saves fails options)
      (RunsTurns (takes options.size) opens closes remaining contents leaves is_clean saves fails options.account) x x'
      went
  RunsOn options (Ends end) x x' went = (x' ≡ record x { behind = GoesOn }) × (went ≡ ended_as end)

  -- what a sender does that was given a server so: it joins its encoder and makes the station where that is due, and
  -- then goes on by what comes behind what was outstanding
  abbrev pub RunsLive : RunOptions → (due : Bool) → (x x' : Live T (SenderOver C I O) K) → Went → Type 0
  RunsLive options due = Then (MakesOnce opens closes remaining contents leaves is_clean saves fails options due)
      (λ x x' went. RunsOn options x.behind x x' went)

  -- ---- A whole run.

  -- One sender ran so with a server, over connections that came from there, and hung up; and this is left.
  abbrev pub RunsOne : RunOptions → (due : Bool) → (c c' : C) → (x x' : Live T ServerState K) → Went → Type 0
  RunsOne options due c c' x x' went =
      (loan : ℕ) × (z : Live T (SenderOver C I O) K)
      × RunsLive options due (record {
        sends = sending opens closes remaining contents leaves is_clean saves fails c loan options.limits x.sends;
        takes = x.takes;
        applied = x.applied;
        unknown = x.unknown;
        behind = x.behind;
      }) z went
      × Finishes closes c' z.sends.runs × (x' ≡ ended_of z)

  -- It did so with a server to the encoder at this address that holds nothing, and then another sender ran with that,
  -- which joins its encoder and makes the station first. Or the save failed, or a line could not be written, and no
  -- sender ran.
  abbrev pub RunsAgain : RunOptions → (address : ℕ) → (c c' : C) → (x x' : Live T ServerState K) → Went → Type 0
  RunsAgain options address c c' x x' went =
      (y : Standing ServerState K) × (y.runs ≡ idle_at address)
      × ((Renews leaves is_clean saves fails (form_of options.account) x.unknown x.sends y (Ok tt)
      × RunsOne options true c c' (from_anew x y) x' went)
      ⊎ ((stop : KeptStop) × Renews leaves is_clean saves fails (form_of options.account) x.unknown x.sends y (Err stop)
      × (went ≡
      Err stop)
      × (c' ≡ c)
      × (x' ≡ from_anew x y)))

  -- One sender ran so, and after it so many more, one after another, each from where the one before stopped: there
  -- messages were outstanding, and the encoder is taken for a new one.
  abbrev pub RunsFor : RunOptions → (due : Bool) → (again : ℕ) → (c c' : C) → (x x' : Live T ServerState K) → Went
      → Type 0
  RunsFor options due zero c c' x x' went = RunsOne options due c c' x x' went
  RunsFor options due (suc n) c c' x x' went =
      (d : C) × (y : Live T ServerState K) × (stopped : Went) × RunsFor options due n c d x y stopped
      × (options.rejoin ≡ true) × (1 ≤ y.unknown) × RunsAgain options x.sends.runs.address d c' y x' went

  -- The writer got the line of how far the server has come; it began anew where its encoder is to be joined; and then
  -- one sender after another ran so, over connections that came from there, and this is left of that. Or the run
  -- stopped before a connection was opened and a line taken.
  abbrev pub LivesFrom : RunOptions → (c c' : C) → (x : Live T ServerState K) → (k' : K) → (held' : Option (List ℕ))
      → (taken : T) → (applied : Bool) → Went → Type 0
  LivesFrom options c c' x k' held' taken applied went =
      ((y : Standing ServerState K) × (again : ℕ) × (z : Live T ServerState K)
      × Then (TellsTaken (form_of options.account))
      (BeginsAnewIf leaves is_clean saves fails (form_of options.account) (is_due options.join x.sends.progress))
      x.sends y
      (Ok tt)
      × RunsFor options (is_due options.join x.sends.progress) again c c' (record {
        sends = y;
        takes = x.takes;
        applied = x.applied;
        unknown = 0;
        behind = GoesOn;
      }) z went
      × IsLast opens closes remaining contents leaves is_clean saves fails options again z
      × (k' ≡ z.sends.keeper) × (held' ≡ z.sends.held) × (taken ≡ z.takes) × (applied ≡ z.applied))
      ⊎ ((y : Standing ServerState K) × (stop : KeptStop)
      × Then (TellsTaken (form_of options.account))
      (BeginsAnewIf leaves is_clean saves fails (form_of options.account) (is_due options.join x.sends.progress))
      x.sends y
      (Err stop)
      × (went ≡ Err stop) × (c' ≡ c) × (k' ≡ y.keeper) × (held' ≡ y.held) × (taken ≡ x.takes)
      × (applied ≡ x.applied))

-- ---- A whole run whose batches are taken from a feed.

-- what of these options is no matter of its lines: each message is told under its number
abbrev pub run_of : LiveOptions → RunOptions
run_of options = record {
  limits = options.limits;
  size = options.reading.size;
  join = options.join;
  rejoin = options.rejoin;
  account = Numbered options.form;
  station = options.station;
}

module _ {D C I O K : Type 0} (unread : D → Option (List ℕ))
    (takes : D → Result Next FeedFault → List ℕ → D → Type 0) (says : D → Bool → D → Type 0)
    (passes : D → Refusal → Result (Unit {0}) NotKept → D → Type 0)
    (opens : C → Option (I × O) → C → Type 0) (closes : C → I → O → C → Type 0)
    (remaining : I → Option (List ℕ)) (contents : O → Option (List ℕ)) (leaves : K → KeptServer → Type 0)
    (is_clean : K → Type 0) (saves fails : K → KeptServer → K → Type 0) where
  -- It ran so from a server of which no line was taken, with the lines counted behind so many, and was ended so.
  abbrev pub Lives : LiveOptions → (c c' : C)
      → (x : Standing ServerState K) → (k' : K) → (held' : Option (List ℕ)) → (feed feed' : D) → (said said' : Told)
      → (status : ℕ)
      → Type 0
  Lives options c c' x k' held' feed feed' said said' status =
      (went : Went) × (taken : FeedIntake D) × (applied : Bool)
      × LivesFrom (FromFeed unread takes says passes options.reading.input options.reading.strict) opens closes
      remaining
      contents leaves is_clean saves fails (run_of options) c c' (record {
        sends = x;
        takes = record { feed = feed; lines = options.lines_before; refused = false; said = said };
        applied = true;
        unknown = 0;
        behind = GoesOn;
      }) k' held' taken applied went
      × (feed' ≡ taken.feed)
      × EndsAs went applied taken.refused taken.said said' status
