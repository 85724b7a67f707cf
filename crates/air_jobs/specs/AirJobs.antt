-- What an encoder answers, and then has on the air. (profile)
use Rattle.std.specs.Prelude.{◌≡◌, ◌⊎◌, ℕ, List, Option, Result, Ok, Err}
use Rattle.std.specs.Io.KnownBytes.{Appends}
use Rattle.output_forms.specs.Forms.{answer_lines}
use Rattle.uecp_text.specs.declared.run_fault.RunFault.{RunFault}
use Rattle.uecp_text.specs.Faults.{status_of, error_lines}
use Rattle.uecp_text.specs.Run.{IsInput, Prints, Breaks}
use Rattle.uecp_jobs.specs.Commands.{AnswersIn}
use Rattle.uecp_jobs.specs.Setups.{Options, IsSetup, RefusesSetup, encoder_at_first}
use Rattle.uecp_jobs.specs.Setups as setup
use Rattle.air_jobs.specs.declared.air_job.AirJob.{AirJob}
use Rattle.air_jobs.specs.Airing.{last_lines}

-- The encoder that the options describe.
abbrev pub options_of : AirJob → Options
options_of job = setup.options_of job.setup

-- What is written of an input: what `answer` writes of it, and where no line is refused what comes last.
abbrev pub AirPrints : AirJob → (input : List ℕ) → Result (Unit {0}) RunFault → (written : List ℕ) → Type 0
AirPrints job input result written =
    Prints (AnswersIn (answer_lines job.form)) (encoder_at_first (options_of job))
    (last_lines job.form job.store job.groups) input result written

-- The writer got that of all that the reader had left, as far as both tell.
abbrev pub Wrote : AirJob → (unread unread' : Option (List ℕ)) → Result (Unit {0}) RunFault
    → (held held' : Option (List ℕ)) → Type 0
Wrote job unread unread' result held held' =
    (input : List ℕ) × (written : List ℕ) × IsInput unread unread' input × AirPrints job input result written
    × Appends held held' written

-- The input was not read to its end, and nothing was written; or it was, and what was written is a beginning of what is
-- written of it.
abbrev pub AirBreaks : AirJob → (unread unread' held held' : Option (List ℕ)) → RunFault → Type 0
AirBreaks job unread unread' held held' fault =
    Breaks (AnswersIn (answer_lines job.form)) (encoder_at_first (options_of job))
    (last_lines job.form job.store job.groups) unread unread' held held' fault

-- The job was done, up to the line that was refused if there is one. Or it failed.
abbrev pub DoesAir : AirJob → (unread unread' held held' : Option (List ℕ)) → Result (Unit {0}) RunFault → Type 0
DoesAir job unread unread' held held' result =
    ((fault : RunFault) × (result ≡ Err fault) × AirBreaks job unread unread' held held' fault)
    ⊎ Wrote job unread unread' result held held'

-- ---- How it ends.
-- All of it was done.
abbrev pub IsDone : AirJob → (unread unread' held held' : Option (List ℕ)) → Type 0
IsDone job unread unread' held held' = IsSetup (options_of job) × Wrote job unread unread' (Ok tt) held held'

-- A line was refused: what the lines before it bring was written, and what is wrong with it was said.
abbrev pub IsRefused : AirJob → (unread unread' held held' : Option (List ℕ)) → (says : List ℕ → Type 0) → Type 0
IsRefused job unread unread' held held' says =
    (fault : RunFault) × (status_of fault ≡ 1) × Wrote job unread unread' (Err fault) held held'
    × says (error_lines fault)

-- The options describe no encoder, and that was said.
abbrev pub IsUndescribed : AirJob → (says : List ℕ → Type 0) → Type 0
IsUndescribed job says =
    (fault : RunFault) × RefusesSetup (options_of job) fault × says (error_lines fault)

-- Memory, reading or writing failed, and that was said.
abbrev pub HasFailed : AirJob → (unread unread' held held' : Option (List ℕ)) → (says : List ℕ → Type 0) → Type 0
HasFailed job unread unread' held held' says =
    (fault : RunFault) × AirBreaks job unread unread' held held' fault × says (error_lines fault)
