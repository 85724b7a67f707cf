-- What holds of `send` as the program makes it over TCP: which lines of its input it took, what it told of them, and
-- what a crash leaves in the file of its state (profile).
use Rattle.std.specs.Prelude.{◌≡◌, ◌⊎◌, ℕ, zero, suc, ◌≤◌, Bool, false, List, length, Option, Some, None, Result, Ok}
use Rattle.std.specs.Prelude.{option_map}
use Rattle.std.specs.String.{string_bytes}
use Rattle.std.specs.Io.KnownBytes.{Appends}
use Rattle.uecp_elements.specs.declared.code.Code.{Code}
use Rattle.uecp_link.specs.Server.{ServerState, idle_at}
use Rattle.uecp_jobs.specs.Setups.{address_of}
use Rattle.uecp_net.specs.declared.saved.keep.Progress.{Progress}
use Rattle.uecp_net.specs.Keeping.{KeptServer}
use Rattle.uecp_net.specs.Tcp.{DialsAgain}
use Rattle.kept_jobs.specs.ServerKept.{HasTaken}
use Rattle.line_batches.specs.declared.intake.Given.{Given}
use Rattle.line_batches.specs.Intake.{messages_in}
use Rattle.live_edges.specs.Heard.{Heard}
use Rattle.live_edges.specs.Patience.{OpensAtLast, GivesBack}
use Rattle.commands.specs.declared.send_options.SendOptions.{SendOptions}
use Rattle.sending.specs.declared.options.LiveOptions.{LiveOptions}
use Rattle.state_files.specs.declared.fault.StateFault.{StateFault}
use Rattle.send_commands.specs.Job.{IsFor}
use Rattle.send_commands.specs.Ended.{TellsEnd}
use Rattle.send_commands.specs.OverTcp.{HasSentTcp}
use Rattle.notices.specs.Told.{Told}
use Rattle.promises.specs.Taken.{TakesSome, TakesAll}
use Rattle.promises.specs.Left.{OutlivesLive}
use Rattle.promises.specs.LiveTold.{TellsAll, IsStatusOf}
use Rattle.promises.specs.LiveLaws.{IsDone}

-- The job keeps its state in the file of this path.
abbrev pub KeepsIn : SendOptions → (path : List ℕ) → Type 0
KeepsIn job path = option_map string_bytes job.state ≡ Some path

-- The options of a run are those of the job, and it took these lines of an input of which so much was left: all up to
-- its end, or with `strict` those up to the first that was refused.
pub record TookAll (job : SendOptions) (unread : Option (List ℕ)) (options : LiveOptions)
    (lines : List (List ℕ × Given))
    : Type 0 where
  pub station : List (List ℕ)
  pub is_for : IsFor job station options
  pub said : Told
  pub unread' : Option (List ℕ)
  pub takes : TakesAll options unread unread' said lines

-- So of some of them.
pub record TookSome (job : SendOptions) (unread : Option (List ℕ)) (options : LiveOptions)
    (lines : List (List ℕ × Given)) : Type 0 where
  pub station : List (List ℕ)
  pub is_for : IsFor job station options
  pub said : Told
  pub unread' : Option (List ℕ)
  pub takes : TakesSome options unread unread' said lines

-- What keeps a state has come to this: it saved so often, or failed to, each time from where the one before left it.
abbrev pub SavedFor : {K : Type 0} → (saves fails : K → KeptServer → K → Type 0) → (count : ℕ) → (k k' : K) → Type 0
SavedFor saves fails zero k k' = k' ≡ k
SavedFor {K} saves fails (suc n) k k' =
    (y : K) × (left : KeptServer) × SavedFor saves fails n k y × (saves y left k' ⊎ fails y left k')

-- Nothing was begun: the address is not that of one encoder, or the station, the file of the state or that for refused
-- lines could not be had. Nothing was written but, in JSON, how it ended.
abbrev pub NothingBegun : SendOptions → (held held' : Option (List ℕ)) → (said' : Told) → (status : ℕ) → Type 0
NothingBegun job held held' said' status =
    (2 ≤ status) × (status ≤ 3) × ((run : Told) × TellsEnd job.form status held held' run said')

module _ {K : Type 0} (gives : (path : List ℕ) → ServerState → Progress → K → Type 0) where
  -- A run whose state is there begins with this server, which had come so far: with that of the file; or with none, a
  -- new one to this encoder, of which nothing was taken, and which is not joined.
  abbrev pub BeginsWith : (state : Option (List ℕ)) → (address : ℕ) → ServerState → (before : Progress) → Type 0
  BeginsWith (Some path) address s before = (s.address ≡ address) × ((k : K) × gives path s before k)
  BeginsWith None address s before = (s ≡ idle_at address) × (before ≡ record { taken = 0; joined = false })

  -- The file of this path gave a server to this encoder which had come so far; and what keeps it came to this by saves.
  pub record KeptFrom (saves fails : K → KeptServer → K → Type 0) (path : List ℕ) (address : ℕ) (s : ServerState)
      (before : Progress) (k' : K) : Type 0 where
    pub k : K
    pub given : gives path s before k
    pub is_to : s.address ≡ address
    pub count : ℕ
    pub saved : SavedFor saves fails count k k'

module _ {A J O K : Type 0} (answers : A → (milliseconds : Option ℕ) → Bool → A → Type 0)
    (remaining : J → Option (List ℕ)) (contents : O → Option (List ℕ))
    (gives : (path : List ℕ) → ServerState → Progress → K → Type 0) (refuses : List ℕ → StateFault → Type 0)
    (ends : K → Result (Unit {0}) StateFault → Type 0) (leaves : K → KeptServer → Type 0) (is_clean : K → Type 0)
    (saves fails : K → KeptServer → K → Type 0) where
  -- Law: a run that ended with 0, 1 or 4, and whose state is in a file, took all lines of its input, and then the file
  -- was closed. The server that had been opened there had come so far; and whatever a crash leaves behind the last save
  -- is joined, counts as taken the messages of these lines besides those of before, and none waits.
  abbrev pub SentIsKept : Type 0
  SentIsKept =
      (job : SendOptions) (arrival : A) (told unread held held' : Option (List ℕ)) (said said' : Told) (status : ℕ)
      (path : List ℕ)
      → HasSentTcp answers remaining contents gives refuses ends leaves is_clean saves fails job arrival told unread
      held held' said said' status
      → KeepsIn job path → IsDone status
      → (options : LiveOptions) × (lines : List (List ℕ × Given)) × TookAll job unread options lines
      × (s : ServerState) × (before : Progress) × (k' : K)
      × KeptFrom gives saves fails path (address_of job.site job.encoder) s before k' × ends k' (Ok tt)
      × (is_clean k' → (left : KeptServer) → leaves k' left → HasTaken before (length (messages_in lines)) left)

  -- Law: however a run ended, or was cut within its last call, and whose state is in a file, nothing was begun; or it
  -- took some lines of its input, and a crash leaves of the server that had been opened there what it may of a run with
  -- the messages of these.
  abbrev pub SentOutlives : Type 0
  SentOutlives =
      (job : SendOptions) (arrival : A) (told unread held held' : Option (List ℕ)) (said said' : Told) (status : ℕ)
      (path : List ℕ)
      → HasSentTcp answers remaining contents gives refuses ends leaves is_clean saves fails job arrival told unread
      held held' said said' status
      → KeepsIn job path
      → NothingBegun job held held' said' status
      ⊎ ((options : LiveOptions) × (lines : List (List ℕ × Given)) × TookSome job unread options lines
      × (s : ServerState) × (before : Progress) × (k' : K)
      × KeptFrom gives saves fails path (address_of job.site job.encoder) s before k'
      × (is_clean k' → (left : KeptServer) → leaves k' left
      → OutlivesLive (λ d given d'. OpensAtLast DialsAgain d given d')
      (λ d input output d'. GivesBack (λ c _ _ c'. c' ≡ c) d input output d')
      (λ (heard : Heard J). remaining heard.reader) contents saves fails options before s (length (messages_in lines))
      left))

  -- Law: a run that ended with 0, 1 or 4 told of each message of its lines one line, in order and under its number, and
  -- nothing else but of the server and its encoder, and behind that in JSON its status; which says how that went. In
  -- JSON an answer tells the message too. The numbers go on from what the server had taken: that of the file where the
  -- state is in one, and else a new one.
  abbrev pub SentIsTold : Type 0
  SentIsTold =
      (job : SendOptions) (arrival : A) (told unread held held' : Option (List ℕ)) (said said' : Told) (status : ℕ)
      → HasSentTcp answers remaining contents gives refuses ends leaves is_clean saves fails job arrival told unread
      held held' said said' status
      → IsDone status
      → (options : LiveOptions) × (lines : List (List ℕ × Given)) × TookAll job unread options lines
      × (s : ServerState) × (before : Progress)
      × BeginsWith gives (option_map string_bytes job.state) (address_of job.site job.encoder) s before
      × (codes : List (Option Code)) × (text : List ℕ) × (again : ℕ)
      × (between : Option (List ℕ)) × (run : Told)
      × (length codes ≡ length (messages_in lines)) × (options.rejoin ≡ false → again ≡ 0)
      × TellsAll options before s again (messages_in lines) codes text × Appends held between text
      × TellsEnd job.form status between held' run said' × IsStatusOf lines codes status
