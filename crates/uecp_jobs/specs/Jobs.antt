-- What each job of the program does (profile).
use Rattle.std.specs.Prelude.{◌≡◌, ℕ, ◌⊎◌, List, [], Option, Some, None, Result, Ok, Err}
use Rattle.std.specs.Io.KnownBytes.{Appends}
use Rattle.uecp_frame.specs.Findings.{Closed}
use Rattle.rds_text.specs.declared.programme_type.Region.{Region}
use Rattle.commands.specs.declared.job.Job.{Job}
use Rattle.commands.specs.declared.job.Job.TheVariants.{AnswerWith, ShowWith, MakeWith, LineWith, EncoderWith}
use Rattle.commands.specs.declared.job.Job.TheVariants.{ServerWith}
use Rattle.commands.specs.Jobs.{in_full}
use Rattle.uecp_text.specs.declared.run_fault.RunFault.{RunFault}
use Rattle.uecp_text.specs.Faults.{status_of, error_lines}
use Rattle.uecp_text.specs.Run.{Meaning, IsInput, Prints, Breaks, RunsWhole}
use Rattle.uecp_jobs.specs.Setups.{Options, IsOneEncoder, IsSetup, RefusesSetup, RefusesAddress, encoder_at_first}
use Rattle.uecp_jobs.specs.Setups.{line_at_first}
use Rattle.uecp_jobs.specs.Commands.{ShowsIn, AnswersIn}
use Rattle.output_forms.specs.Forms.{found_lines, answer_lines, store_lines}
use Rattle.uecp_jobs.specs.FrameScript.{Makes, spelled_line}
use Rattle.uecp_jobs.specs.PhraseScript.{MakesWords, first_heading, left_line}
use Rattle.uecp_jobs.specs.Playing.{PlaysIn, closing_lines}

-- The options of a job that has an encoder.
abbrev pub options : (site encoder sets : ℕ) (services : List ℕ) → Options
options site encoder sets services = record { site = site; encoder = encoder; sets = sets; services = services }

-- The job is that of a command without a connection that reads its input to the end before it writes: of `answer` with
-- no groups on the air, and of `line` with no ladder.
abbrev pub IsLocalFull : Job → Type 0
IsLocalFull (AnswerWith job) = job.air ≡ None
IsLocalFull (ShowWith job) = Unit {0}
IsLocalFull (MakeWith job) = Unit {0}
IsLocalFull (LineWith job) = job.ladder ≡ None
IsLocalFull job = ⊥

abbrev pub IsLocal : Job → Type 0
IsLocal job = IsLocalFull (in_full job)

-- What is told of a script: by what its texts mean, the value that it begins with, and its closing lines.
abbrev pub ByScript : (words : Option Region)
    → ((V : Type 0) → Meaning V → (start : V) → (closing : V → List ℕ) → Type 0) → Type 0
ByScript (Some region) tells = tells _ (MakesWords region) first_heading left_line
ByScript None tells = tells _ Makes None spelled_line

-- What a script brought, in whichever words it is.
abbrev pub RunsScript : (words : Option Region) → (unread unread' held held' : Option (List ℕ))
    → Result (Unit {0}) RunFault → Type 0
RunsScript words unread unread' held held' result = ByScript words
    (λ V meaning start closing. RunsWhole meaning start closing unread unread' held held' result)

-- What is told of a job by its command: by what texts mean to it, the value that it begins with, and its closing lines.
-- The jobs with connections, and those that tell as they read, are told of apart, and so are groups and ladders.
abbrev pub ByFull : Job → ((V : Type 0) → Meaning V → (start : V) → (closing : V → List ℕ) → Type 0) → Type 0
ByFull (ShowWith job) tells = tells _ (ShowsIn (found_lines job.form)) Closed (λ part. [])
ByFull (MakeWith job) tells = ByScript job.words tells
ByFull (AnswerWith job) tells =
    tells _ (AnswersIn (answer_lines job.form))
    (encoder_at_first (options job.site job.encoder job.sets job.services.items))
    (λ e. store_lines job.form job.store e.value)
ByFull (LineWith job) tells =
    tells _ (PlaysIn job.form) (line_at_first (options job.site job.encoder job.sets job.services.items))
    (closing_lines job.form job.store)
ByFull job tells = ⊥

-- Told of a job by its command, whether it is short or in full.
abbrev pub ByCommand : Job → ((V : Type 0) → Meaning V → (start : V) → (closing : V → List ℕ) → Type 0) → Type 0
ByCommand job tells = ByFull (in_full job) tells

-- What the job writes of an input: the lines of the texts, and the closing ones where no line is refused; the result
-- names the refused line.
abbrev pub JobPrints : Job → (input : List ℕ) → Result (Unit {0}) RunFault → (written : List ℕ) → Type 0
JobPrints job input result written = ByCommand job
    (λ V meaning start closing. Prints meaning start closing input result written)

-- The job failed for this: its input was not read to its end, and nothing was written; or it was, and what was written
-- is a beginning of what the job writes of it.
abbrev pub JobBreaks : Job → (unread unread' : Option (List ℕ)) → (held held' : Option (List ℕ)) → RunFault → Type 0
JobBreaks job unread unread' held held' fault = ByCommand job
    (λ V meaning start closing. Breaks meaning start closing unread unread' held held' fault)

-- The options of a job describe an encoder, or where it is a server the address of one, if it has such options.
abbrev pub IsDescribedFull : Job → Type 0
IsDescribedFull (AnswerWith job) = IsSetup (options job.site job.encoder job.sets job.services.items)
IsDescribedFull (LineWith job) = IsSetup (options job.site job.encoder job.sets job.services.items)
IsDescribedFull (EncoderWith job) = IsSetup (options job.site job.encoder job.sets job.services.items)
IsDescribedFull (ServerWith job) = IsOneEncoder job.site job.encoder
IsDescribedFull job = Unit {0}

-- So of any job, short or in full.
abbrev pub IsDescribed : Job → Type 0
IsDescribed job = IsDescribedFull (in_full job)

-- The options of the job describe no encoder, and this is said.
abbrev pub RefusesFull : Job → RunFault → Type 0
RefusesFull (AnswerWith job) fault = RefusesSetup (options job.site job.encoder job.sets job.services.items) fault
RefusesFull (LineWith job) fault = RefusesSetup (options job.site job.encoder job.sets job.services.items) fault
RefusesFull (EncoderWith job) fault = RefusesSetup (options job.site job.encoder job.sets job.services.items) fault
RefusesFull (ServerWith job) fault = RefusesAddress job.site job.encoder fault
RefusesFull job fault = ⊥

-- So of any job, short or in full, that describes none.
abbrev pub RefusesJob : Job → RunFault → Type 0
RefusesJob job fault = RefusesFull (in_full job) fault

-- The writer got what the job writes of all that the reader had left, as far as both tell.
abbrev pub Wrote : Job → (unread unread' : Option (List ℕ)) → Result (Unit {0}) RunFault
    → (held held' : Option (List ℕ)) → Type 0
Wrote job unread unread' result held held' =
    (input : List ℕ) × (written : List ℕ) × IsInput unread unread' input × JobPrints job input result written
    × Appends held held' written

-- The job was done, up to the line that was refused if there is one. Or it failed.
abbrev pub DoesJob : Job → (unread unread' : Option (List ℕ)) → (held held' : Option (List ℕ))
    → Result (Unit {0}) RunFault → Type 0
DoesJob job unread unread' held held' result = ((fault : RunFault) × (result ≡ Err fault)
    × JobBreaks job unread unread' held held' fault) ⊎ Wrote job unread unread' result held held'

-- ---- how a job ends
-- All of it was done.
abbrev pub IsDone : Job → (unread unread' held held' : Option (List ℕ)) → Type 0
IsDone job unread unread' held held' = IsDescribed job × Wrote job unread unread' (Ok tt) held held'

-- A line was refused: what the lines before it bring was written, and what is wrong with it was said on standard error.
abbrev pub IsRefused : Job → (unread unread' held held' : Option (List ℕ)) → (says : List ℕ → Type 0) → Type 0
IsRefused job unread unread' held held' says =
    (fault : RunFault) × (status_of fault ≡ 1) × Wrote job unread unread' (Err fault) held held'
    × says (error_lines fault)

-- The options of the job describe no encoder, and that was said.
abbrev pub IsUndescribed : Job → (says : List ℕ → Type 0) → Type 0
IsUndescribed job says = (fault : RunFault) × RefusesJob job fault × says (error_lines fault)

-- Memory, reading or writing failed, and that was said. What was written is a beginning of what
-- the job writes of its input, and nothing where that was not read to its end.
abbrev pub HasFailed : Job → (unread unread' held held' : Option (List ℕ)) → (says : List ℕ → Type 0) → Type 0
HasFailed job unread unread' held held' says =
    (fault : RunFault) × JobBreaks job unread unread' held held' fault × says (error_lines fault)
