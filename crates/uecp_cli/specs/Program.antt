-- How a run of the program ends (profile).
use Rattle.std.specs.Prelude.{◌≡◌, ◌≢◌, ◌⊎◌, ℕ, true, is_some, List, Option, None, Ok, Err}
use Rattle.std.specs.String.{string_bytes}
use Rattle.clap.specs.Faults.{fault_of}
use Rattle.clap.specs.Kinds.{IsAmong}
use Rattle.clap.specs.declared.error.kind.ErrorKind.{ErrorKind}
use Rattle.clap.specs.declared.error.kind.ErrorKind.TheVariants.{DisplayHelp, DisplayVersion}
use Rattle.uecp_text.specs.declared.run_fault.RunFault.{RunFault}
use Rattle.uecp_text.specs.Faults.{Fails, error_lines}
use Rattle.commands.specs.Jobs.{is_device}
use Rattle.commands.specs.declared.job.Job.{Job}
use Rattle.commands.specs.declared.job.Job.TheVariants.{AnswerWith, LineWith, Encoder, EncoderWith, Server, ServerWith}
use Rattle.commands.specs.declared.job.Job.TheVariants.{Send, Watch, State, Receive, Conformance, Page, Quote, Phrases}
use Rattle.commands.specs.declared.job.Job.TheVariants.{MakeFitted}
use Rattle.rds_store.specs.Value.{Store}
use Rattle.uecp_encoder.specs.State.{EncoderState}
use Rattle.uecp_link.specs.Server.{ServerState}
use Rattle.uecp_encoder.specs.Keeping as serving
use Rattle.uecp_net.specs.declared.saved.keep.Progress.{Progress}
use Rattle.uecp_net.specs.Keeping as sending
use Rattle.state_files.specs.declared.reading.Found.{Found}
use Rattle.command_line.specs.CommandLine.{uecp_app, Asks, GivesNoChoice, GivesNoList}
use Rattle.command_line.specs.Usages.{no_list_line, SaysFailure}
use Rattle.uecp_watch.specs.Watching.{Watches}
use Rattle.uecp_jobs.specs.Jobs.{IsDone, IsRefused, IsUndescribed, HasFailed}
use Rattle.uecp_jobs.specs.EncoderRun.{HasServed, HasStopped}
use Rattle.uecp_jobs.specs.ServerRun.{AreAcknowledged, AreAcknowledgedBefore, AreNotAcknowledged}
use Rattle.uecp_cli.specs.Kept.{HasServedLines, SaysWhyOf, ServesKeptAs, SendsDone, SendsRefused, SendsStopped}
use Rattle.uecp_cli.specs.Kept.{SendsKeptAs, HasTold, HasNotTold}
use Rattle.notices.specs.Told.{Told, Says}

-- ---- what comes of a job
-- What comes of these is told by the calls that do them, and not here: groups on the air, a ladder, a device, what goes
-- on until it is stopped, conformance cases, scripts that are made to fit, quoted lines, and the page of phrases.
abbrev pub IsApart : Job → Type 0
IsApart (AnswerWith o) = is_some o.air ≡ true
IsApart (LineWith o) = is_some o.ladder ≡ true
IsApart (EncoderWith o) = (is_device o ≡ true) ⊎ ((o.state ≡ None) ⊎ (o.port ≡ None))
IsApart (Send o) = Unit {0}
IsApart (Receive o) = Unit {0}
IsApart (Conformance o) = Unit {0}
IsApart (Page o) = Unit {0}
IsApart (MakeFitted region) = Unit {0}
IsApart Quote = Unit {0}
IsApart Phrases = Unit {0}
IsApart job = ⊥

-- All of it was done: of its input; or its connections were served, and then no input was read; or its messages were
-- acknowledged; or what came was told as it came; or what is in the file was told.
abbrev pub IsJobDone : (finds : (path : List ℕ) → Found → Type 0) → Job
    → (unread unread' held held' : Option (List ℕ)) → Type 0
IsJobDone finds (Encoder site encoder sets services port connections turns) unread unread' held held' =
    HasServed (Encoder site encoder sets services port connections turns) held held' × (unread' ≡ unread)
IsJobDone finds (EncoderWith o) unread unread' held held' = HasServedLines o held held' × (unread' ≡ unread)
IsJobDone finds (Server site encoder host port tries timeout turns reconnects window) unread unread' held held' =
    AreAcknowledged (Server site encoder host port tries timeout turns reconnects window) unread unread' held held'
IsJobDone finds (ServerWith o) unread unread' held held' = SendsDone o unread unread' held held'
IsJobDone finds (Watch o) unread unread' held held' = Watches o.form o.time unread unread' held held' (Ok tt)
IsJobDone finds (State file) unread unread' held held' = HasTold finds (string_bytes file) unread unread' held held'
IsJobDone finds job unread unread' held held' = IsDone job unread unread' held held'

-- A line of its input was refused: what the lines before it bring was written, or their messages were acknowledged.
abbrev pub IsJobRefused : Job → (unread unread' held held' : Option (List ℕ)) → (told told' : Told) → Type 0
IsJobRefused (Encoder site encoder sets services port connections turns) unread unread' held held' told told' = ⊥
IsJobRefused (EncoderWith o) unread unread' held held' told told' = ⊥
IsJobRefused (Server site encoder host port tries timeout turns reconnects window) unread unread' held held' told
    told' =
    AreAcknowledgedBefore (Server site encoder host port tries timeout turns reconnects window) unread unread' held
    held' (Says told told')
IsJobRefused (ServerWith o) unread unread' held held' told told' = SendsRefused o unread unread' held held' told told'
IsJobRefused (Watch o) unread unread' held held' told told' = ⊥
IsJobRefused (State file) unread unread' held held' told told' = ⊥
IsJobRefused job unread unread' held held' told told' = IsRefused job unread unread' held held' (Says told told')

-- It came to no end, and that was said: memory, reading or writing failed, and what was written is a beginning of what
-- it writes of its input; or not all its messages were sent or told; or connections could not be served, and no input
-- was read; or watching stopped; or the file could not be told of.
abbrev pub IsJobStopped : (finds : (path : List ℕ) → Found → Type 0) → Job
    → (unread unread' held held' : Option (List ℕ)) → (told told' : Told) → Type 0
IsJobStopped finds (Encoder site encoder sets services port connections turns) unread unread' held held' told told' =
    HasStopped (Encoder site encoder sets services port connections turns) held held' (Says told told')
    × (unread' ≡ unread)
IsJobStopped finds (EncoderWith o) unread unread' held held' told told' =
    SaysWhyOf o told told' × (unread' ≡ unread)
IsJobStopped finds (Server site encoder host port tries timeout turns reconnects window) unread unread' held held' told
    told' =
    AreNotAcknowledged (Server site encoder host port tries timeout turns reconnects window) unread unread' held held'
    (Says told told')
IsJobStopped finds (ServerWith o) unread unread' held held' told told' =
    SendsStopped o unread unread' held held' told told'
IsJobStopped finds (Watch o) unread unread' held held' told told' =
    (fault : RunFault) × Fails fault × Watches o.form o.time unread unread' held held' (Err fault)
    × Says told told' (error_lines fault)
IsJobStopped finds (State file) unread unread' held held' told told' =
    HasNotTold finds (string_bytes file) unread unread' held held' told told'
IsJobStopped finds job unread unread' held held' told told' = HasFailed job unread unread' held held' (Says told told')

-- What is kept in the file of an end's state, where that is asked for.
abbrev pub IsJobKept : {E S : Type 0} → (gives_encoder : (path : List ℕ) → EncoderState Store → E → Type 0)
    → (encoder_leaves : E → serving.Kept Store → Type 0) → (encoder_clean : E → Type 0)
    → (gives_server : (path : List ℕ) → ServerState → Progress → S → Type 0)
    → (server_leaves : S → sending.KeptServer → Type 0) → (server_clean : S → Type 0) → Job
    → (unread unread' held held' : Option (List ℕ)) → Type 0
IsJobKept gives_encoder encoder_leaves encoder_clean gives_server server_leaves server_clean (EncoderWith o) unread
    unread' held held' = ServesKeptAs gives_encoder encoder_leaves encoder_clean o held held'
IsJobKept gives_encoder encoder_leaves encoder_clean gives_server server_leaves server_clean (ServerWith o) unread
    unread' held held' = SendsKeptAs gives_server server_leaves server_clean o unread unread'
IsJobKept gives_encoder encoder_leaves encoder_clean gives_server server_leaves server_clean job unread unread' held
    held' = Unit {0}

-- ---- by the words of the command line
-- The words have a fault, and it is no question for a text.
abbrev pub AreMistaken : (words : List (List ℕ)) → Type 0
AreMistaken words = (kind : ErrorKind) × IsAmong kind (fault_of uecp_app words) × (kind ≢ DisplayHelp)
    × (kind ≢ DisplayVersion)

-- The words ask for a job of which what comes is told apart.
abbrev pub AskApart : (words : List (List ℕ)) → Type 0
AskApart words = (job : Job) × Asks words job × IsApart job

-- The words ask for a job, and it was done.
abbrev pub HasDone : (finds : (path : List ℕ) → Found → Type 0) → (words : List (List ℕ))
    → (unread unread' held held' : Option (List ℕ)) → Type 0
HasDone finds words unread unread' held held' =
    (job : Job) × Asks words job × IsJobDone finds job unread unread' held held'

-- The words ask for a job, and a line was refused.
abbrev pub HasRefused : (words : List (List ℕ)) → (unread unread' held held' : Option (List ℕ)) → (told told' : Told)
    → Type 0
HasRefused words unread unread' held held' told told' =
    (job : Job) × Asks words job × IsJobRefused job unread unread' held held' told told'

-- The words ask for a job, and it came to no end.
abbrev pub HasBrokenOff : (finds : (path : List ℕ) → Found → Type 0) → (words : List (List ℕ))
    → (unread unread' held held' : Option (List ℕ)) → (told told' : Told) → Type 0
HasBrokenOff finds words unread unread' held held' told told' =
    (job : Job) × Asks words job × IsJobStopped finds job unread unread' held held' told told'

-- The words ask for a job, and this is kept then.
abbrev pub HasKept : {E S : Type 0} → (gives_encoder : (path : List ℕ) → EncoderState Store → E → Type 0)
    → (encoder_leaves : E → serving.Kept Store → Type 0) → (encoder_clean : E → Type 0)
    → (gives_server : (path : List ℕ) → ServerState → Progress → S → Type 0)
    → (server_leaves : S → sending.KeptServer → Type 0) → (server_clean : S → Type 0) → (words : List (List ℕ))
    → (unread unread' held held' : Option (List ℕ)) → Type 0
HasKept gives_encoder encoder_leaves encoder_clean gives_server server_leaves server_clean words unread unread' held
    held' = (job : Job) × Asks words job
    × IsJobKept gives_encoder encoder_leaves encoder_clean gives_server server_leaves server_clean job unread unread'
    held held'

-- The words ask for a job, and this comes of it.
abbrev pub HasCome : (comes : Job → (status : ℕ) → (unread unread' held held' : Option (List ℕ)) → (told told' : Told)
    → Type 0)
    → (words : List (List ℕ)) → (status : ℕ) → (unread unread' held held' : Option (List ℕ)) → (told told' : Told)
    → Type 0
HasCome comes words status unread unread' held held' told told' =
    (job : Job) × Asks words job × comes job status unread unread' held held' told told'

-- The words ask for nothing that can be done: they are mistaken, or give a list of services that is none or a word that
-- is none of those that its option has, or ask for a job whose options describe no encoder. The first and the third are
-- said by clap, and the others were said on standard error.
abbrev pub HasRefusedWords : (words : List (List ℕ)) → (told told' : Told) → Type 0
HasRefusedWords words told told' =
    AreMistaken words ⊎ ((GivesNoList words × Says told told' no_list_line)
    ⊎ (GivesNoChoice words ⊎ ((job : Job) × Asks words job × IsUndescribed job (Says told told'))))

-- The words gave no job: they are refused, and nothing that they ask for can be done; or memory was wanting, or the
-- text that they ask for could not be written. That was said.
abbrev pub HasNoJob : (words : List (List ℕ)) → (told told' : Told) → Type 0
HasNoJob words told told' = HasRefusedWords words told told' ⊎ SaysFailure told told'
