-- What comes of a command by its options: groups on the air, a ladder, both ends, `send`, a display, conformance cases,
-- a page, scripts that are made to fit, quoted lines, and the page of phrases (profile).
use Rattle.std.specs.Prelude.{◌≡◌, ◌⊎◌, ◌≤◌, ◌||◌, ℕ, Bool, true, false, IsTrue, List, Option, None, is_some}
use Rattle.std.specs.Prelude.{MatchOption, Result}
use Rattle.rds_store.specs.Value.{Store}
use Rattle.uecp_encoder.specs.State.{EncoderState}
use Rattle.uecp_encoder.specs.Keeping.{Kept}
use Rattle.state_files.specs.declared.fault.StateFault.{StateFault}
use Rattle.device_edges.specs.Place.{Listens, ComesTo, GoesFrom}
use Rattle.device_edges.specs.Screen.{Screen, Screening, Notice, OpensScreened, ClosesScreened}
use Rattle.device_jobs.specs.Serving.{HasServedDevice}
use Rattle.device_jobs.specs.OverTcp.{HasServedTcp}
use Rattle.device_jobs.specs.AirOverTcp.{HasAiredTcp}
use Rattle.page_server.specs.Serving.{EndsWith}
use Rattle.uecp_link.specs.Server.{ServerState}
use Rattle.uecp_net.specs.declared.saved.keep.Progress.{Progress}
use Rattle.uecp_net.specs.Keeping.{KeptServer}
use Rattle.send_commands.specs.OverTcp.{HasSentTcp}
use Rattle.commands.specs.declared.send_options.SendOptions.{SendOptions}
use Rattle.commands.specs.Jobs.{is_device}
use Rattle.commands.specs.declared.encoder_options.EncoderOptions.{EncoderOptions}
use Rattle.commands.specs.declared.answer_options.AnswerOptions.{AnswerOptions}
use Rattle.commands.specs.declared.line_options.LadderForm.{LadderForm}
use Rattle.commands.specs.declared.line_options.LineOptions.{LineOptions}
use Rattle.commands.specs.declared.job.Job.{Job}
use Rattle.commands.specs.declared.job.Job.TheVariants.{AnswerWith, LineWith, Encoder, EncoderWith, Server}
use Rattle.commands.specs.declared.job.Job.TheVariants.{ServerWith, Send, Receive, Conformance, Page, MakeFitted, Quote}
use Rattle.commands.specs.declared.job.Job.TheVariants.{Phrases}
use Rattle.uecp_jobs.specs.Setups.{Options}
use Rattle.uecp_jobs.specs.Setups as setup
use Rattle.air_jobs.specs.AirJobs as air
use Rattle.air_jobs.specs.declared.air_job.AirJob.{AirJob}
use Rattle.ladders.specs.Jobs as ladder
use Rattle.ladders.specs.declared.ladder_job.LadderJob.{LadderJob}
use Rattle.commands.specs.declared.receive_options.ReceiveOptions.{ReceiveOptions}
use Rattle.receive_command.specs.Bits.{ReceivesBits}
use Rattle.receive_command.specs.Receiving.{Receives, at_first}
use Rattle.uecp_text.specs.Faults.{error_lines}
use Rattle.phrase_commands.specs.Quoting.{QuotesLines, TellsPhrases}
use Rattle.phrase_commands.specs.Scripts.{MakesFitted}
use Rattle.uecp_text.specs.declared.run_fault.RunFault.TheVariants.{OutOfMemory}
use Rattle.conformance_command.specs.Dialling.{DialsQuietly, DialsQuietlyAgain}
use Rattle.conformance_command.specs.OverTcp.{RunsBuiltIn}
use Rattle.uecp_cli.specs.Ends.{ComesOfServer, ServesThere, ServesPlain}
use Rattle.notices.specs.Told.{Told, Says}

-- The encoder that these options describe.
abbrev pub described : (site encoder sets : ℕ) → (services : List ℕ) → Options
described site encoder sets services = record { site = site; encoder = encoder; sets = sets; services = services }

-- This is what is asked of `answer` by these options, with so many groups behind.
pub record IsAirOf (o : AnswerOptions) (groups : ℕ) (job : AirJob) : Type 0 where
  pub setup_is : setup.options_of job.setup ≡ described o.site o.encoder o.sets o.services.items
  pub store_is : job.store ≡ o.store
  pub form_is : job.form ≡ o.form
  pub groups_are : job.groups ≡ groups

-- This is what is asked of `line` by these options, with a ladder of this form.
pub record IsLadderOf (o : LineOptions) (form : LadderForm) (job : LadderJob) : Type 0 where
  pub setup_is : setup.options_of job.setup ≡ described o.site o.encoder o.sets o.services.items
  pub form_is : job.form ≡ form

-- The input was answered, up to the line that was refused where one was, and where none was the groups were told; or
-- the options describe no encoder, or memory, reading or writing failed. Why it came to no end was said.
pub record AnswersOnAir (o : AnswerOptions) (status : ℕ) (unread unread' held held' : Option (List ℕ))
    (told told' : Told) (groups : ℕ) : Type 0 where
  pub job : AirJob
  pub is_of : IsAirOf o groups job
  pub done : status ≡ 0 → air.IsDone job unread unread' held held'
  pub refused : status ≡ 1 → air.IsRefused job unread unread' held held' (Says told told')
  pub undescribed : status ≡ 2 → air.IsUndescribed job (Says told told') × (unread' ≡ unread) × (held' ≡ held)
  pub failed : status ≡ 3 → air.HasFailed job unread unread' held held' (Says told told')
  pub most : status ≤ 3

-- The line was drawn; or a line of the input was refused, and nothing was; or the options describe no encoder, or
-- memory, reading or writing failed. Why it came to no end was said.
pub record DrawsLadder (o : LineOptions) (status : ℕ) (unread unread' held held' : Option (List ℕ)) (told told' : Told)
    (form : LadderForm) : Type 0 where
  pub job : LadderJob
  pub is_of : IsLadderOf o form job
  pub done : status ≡ 0 → ladder.IsDone job unread unread' held held'
  pub refused : status ≡ 1 → ladder.IsRefused job unread unread' held held' (Says told told')
  pub undescribed : status ≡ 2 → ladder.IsUndescribed job (Says told told') × (unread' ≡ unread) × (held' ≡ held)
  pub failed : status ≡ 3 → ladder.HasFailed job unread unread' held held' (Says told told')
  pub most : status ≤ 3

-- Lines of groups were heard from the front of the input on, as far as they were, and what a receiver shows was told;
-- or there was no memory to begin with, and that was said.
abbrev pub ReceivesLines : ReceiveOptions → (status : ℕ) → (unread held held' : Option (List ℕ)) → (told told' : Told)
    → Type 0
ReceivesLines o status unread held held' told told' =
    ((unread' : Option (List ℕ)) × Receives o.form o.time status (at_first unread held told) unread' held' told')
    ⊎ ((status ≡ 3) × (held' ≡ held) × Says told told' (error_lines OutOfMemory))

-- Of these options of the encoder it is one on the air.
abbrev pub is_on_air : EncoderOptions → Bool
is_on_air o = is_some o.air || o.air_bits

-- What comes of `send`, whatever its status is, whatever had been said of its connections before, and whatever a poll
-- tells of the lines that are there.
module _ {I O K : Type 0} (remaining : I → Option (List ℕ)) (contents : O → Option (List ℕ))
    (gives : (path : List ℕ) → ServerState → Progress → K → Type 0) (refuses : List ℕ → StateFault → Type 0)
    (ends : K → Result (Unit {0}) StateFault → Type 0) (leaves : K → KeptServer → Type 0) (is_clean : K → Type 0)
    (saves fails : K → KeptServer → K → Type 0) where
  abbrev pub ComesOfSend : SendOptions → (unread held held' : Option (List ℕ)) → (told told' : Told) → (status : ℕ)
      → Type 0
  ComesOfSend o unread held held' told told' status =
      (said : Option (List ℕ)) × (poll : Unit {0})
      × HasSentTcp (λ poll milliseconds there poll'. Unit {0}) remaining contents gives refuses ends leaves is_clean
      saves fails o poll said unread held held' told told' status

  -- So where it is asked for; and what comes of `server`, where that is.
  abbrev pub ComesOfLines : Job → (status : ℕ) → (unread unread' held held' : Option (List ℕ)) → (told told' : Told)
      → Type 0
  ComesOfLines (Send o) status unread unread' held held' told told' =
      ComesOfSend o unread held held' told told' status
  ComesOfLines (Server site encoder host port tries timeout turns reconnects window) status unread unread' held held'
      told told' =
      ComesOfServer remaining contents gives refuses ends leaves is_clean saves fails
      (Server site encoder host port tries timeout turns reconnects window) status unread unread' held held' told told'
  ComesOfLines (ServerWith o) status unread unread' held held' told told' =
      ComesOfServer remaining contents gives refuses ends leaves is_clean saves fails (ServerWith o) status unread
      unread' held held' told told'
  ComesOfLines job status unread unread' held held' told told' = Unit {0}

-- What comes of the others, whatever the status is, over the sockets of the machine, where states are kept so.
module _ {I J O K : Type 0} (remaining : I → Option (List ℕ))
    (screened : Screen J → Option (List ℕ)) (contents : O → Option (List ℕ))
    (gives : List ℕ → EncoderState Store → K → Type 0)
    (refuses : List ℕ → StateFault → Type 0) (ends : K → Result (Unit {0}) StateFault → Type 0) (most room : ℕ)
    (leaves : K → Kept Store → Type 0) (is_clean : K → Type 0) (saves fails : K → Kept Store → K → Type 0) where
  -- The encoder is a device with a good line: it served over connections that came where the options have it listen.
  abbrev pub ServesDevice : EncoderOptions → (held held' : Option (List ℕ)) → (told told' : Told) → (status : ℕ)
      → Type 0
  ServesDevice o held held' told told' status =
      HasServedTcp (HasServedDevice {C = Screening Listens} {I = Screen J} {O = O} (OpensScreened ComesTo)
      (ClosesScreened GoesFrom) screened contents gives refuses ends most room leaves is_clean saves fails o) o held
      held' told told' status

  -- It is on the air there, whatever had been said of those who listen, and of foreign connections, before.
  abbrev pub IsOnAir : EncoderOptions → (held : Option (List ℕ)) → (told told' : Told) → (status : ℕ) → Type 0
  IsOnAir o held told told' status =
      (said : Option (List ℕ)) × (notice : Notice) × HasAiredTcp screened contents gives refuses ends most room leaves
      is_clean saves fails o said notice held told told' status

  -- So of an encoder that is a device: on the air, or with a good line.
  abbrev pub ComesOfDevice : EncoderOptions → (held held' : Option (List ℕ)) → (told told' : Told) → (status : ℕ)
      → Type 0
  ComesOfDevice o held held' told told' status =
      (IsTrue (is_on_air o) → IsOnAir o held told told' status)
      × (is_on_air o ≡ false → o.faults ≡ None → ServesDevice o held held' told told' status)

  -- So of a command, where connections of an encoder that is no device are screened so.
  module _ (judged : Screen I → Option (List ℕ)) where
    abbrev pub ComesOf : Job → (status : ℕ) → (unread unread' held held' : Option (List ℕ)) → (told told' : Told)
        → Type 0
    ComesOf (AnswerWith o) status unread unread' held held' told told' =
        MatchOption o.air (Unit {0}) (AnswersOnAir o status unread unread' held held' told told')
    ComesOf (LineWith o) status unread unread' held held' told told' =
        MatchOption o.ladder (Unit {0}) (DrawsLadder o status unread unread' held held' told told')
    ComesOf (Encoder site encoder sets services port connections turns) status unread unread' held held' told told' =
        ServesThere remaining contents (Encoder site encoder sets services port connections turns) status held held'
        told told'
    ComesOf (EncoderWith o) status unread unread' held held' told told' =
        (IsTrue (is_device o) → ComesOfDevice o held held' told told' status)
        × (is_device o ≡ false → ServesPlain judged contents gives refuses ends most room leaves is_clean saves fails o
        status held held' told told')
    ComesOf (Receive o) status unread unread' held held' told told' =
        (IsTrue o.bits → ReceivesBits o.form o.time status unread unread' held held' told told')
        × (o.bits ≡ false → ReceivesLines o status unread held held' told told')
    ComesOf (Conformance o) status unread unread' held held' told told' =
        (status ≤ 1 → RunsBuiltIn DialsQuietlyAgain
        (λ (d : DialsQuietly) (input : I) (output : O) (d' : DialsQuietly). d' ≡ d) remaining contents o held held'
        status
        × (told' ≡ told))
        × (status ≡ 2 → held' ≡ held)
    ComesOf (Page o) status unread unread' held held' told told' = status ≤ 1 → EndsWith unread unread' status
    ComesOf (MakeFitted region) status unread unread' held held' told told' =
        MakesFitted region status unread unread' held held' told told'
    ComesOf Quote status unread unread' held held' told told' = QuotesLines status unread unread' held held' told told'
    ComesOf Phrases status unread unread' held held' told told' =
        TellsPhrases status held held' told told' × (unread' ≡ unread)
    ComesOf job status unread unread' held held' told told' = Unit {0}
