-- The job of a ladder, from an event script to an exit status (profile).
use Rattle.std.specs.Prelude.{◌≡◌, ◌⊎◌, ℕ, List, [], Option, Result, Ok, Err}
use Rattle.std.specs.Io.KnownBytes.{Appends}
use Rattle.uecp_text.specs.declared.run_fault.RunFault.{RunFault}
use Rattle.uecp_text.specs.Faults.{status_of, error_lines}
use Rattle.uecp_text.specs.Run.{IsInput, Prints, Breaks}
use Rattle.uecp_jobs.specs.Setups.{Options, IsSetup, RefusesSetup, line_at_first}
use Rattle.uecp_jobs.specs.Setups as setup
use Rattle.commands.specs.declared.line_options.LadderForm.{LadderForm}
use Rattle.ladders.specs.declared.ladder_job.LadderJob.{LadderJob}
use Rattle.ladders.specs.Playing.{Drawn, Draws}
use Rattle.ladders.specs.Drawing.{ladder}

-- The encoder that the options describe.
abbrev pub options_of : LadderJob → Options
options_of job = setup.options_of job.setup

-- A new line to that encoder, and no row.
abbrev pub drawn_at_first : Options → Drawn
drawn_at_first options = record { line = line_at_first options; rows = [] }

-- What is drawn at the end.
abbrev pub last_lines : LadderForm → Drawn → List ℕ
last_lines form drawn = ladder form drawn.rows drawn.line

-- What is written of an input: the ladder of all its events where no line is refused, and else nothing.
abbrev pub LadderPrints : LadderJob → (input : List ℕ) → Result (Unit {0}) RunFault → (written : List ℕ) → Type 0
LadderPrints job input result written =
    Prints Draws (drawn_at_first (options_of job)) (last_lines job.form) input result written

-- The writer got that of all that the reader had left, as far as both tell.
abbrev pub Wrote : LadderJob → (unread unread' : Option (List ℕ)) → Result (Unit {0}) RunFault
    → (held held' : Option (List ℕ)) → Type 0
Wrote job unread unread' result held held' =
    (input : List ℕ) × (written : List ℕ) × IsInput unread unread' input × LadderPrints job input result written
    × Appends held held' written

-- The input was not read to its end, and nothing was written; or it was, and what was written is a beginning of what is
-- written of it.
abbrev pub LadderBreaks : LadderJob → (unread unread' held held' : Option (List ℕ)) → RunFault → Type 0
LadderBreaks job unread unread' held held' fault =
    Breaks Draws (drawn_at_first (options_of job)) (last_lines job.form) unread unread' held held' fault

-- The job was done, up to the line that was refused if there is one. Or it failed.
abbrev pub DoesLadder : LadderJob → (unread unread' held held' : Option (List ℕ)) → Result (Unit {0}) RunFault → Type 0
DoesLadder job unread unread' held held' result =
    ((fault : RunFault) × (result ≡ Err fault) × LadderBreaks job unread unread' held held' fault)
    ⊎ Wrote job unread unread' result held held'

-- ---- How it ends.
-- All of it was done.
abbrev pub IsDone : LadderJob → (unread unread' held held' : Option (List ℕ)) → Type 0
IsDone job unread unread' held held' = IsSetup (options_of job) × Wrote job unread unread' (Ok tt) held held'

-- A line was refused: nothing was written, and what is wrong with it was said.
abbrev pub IsRefused : LadderJob → (unread unread' held held' : Option (List ℕ)) → (says : List ℕ → Type 0) → Type 0
IsRefused job unread unread' held held' says =
    (fault : RunFault) × (status_of fault ≡ 1) × Wrote job unread unread' (Err fault) held held'
    × says (error_lines fault)

-- The options describe no encoder, and that was said.
abbrev pub IsUndescribed : LadderJob → (says : List ℕ → Type 0) → Type 0
IsUndescribed job says =
    (fault : RunFault) × RefusesSetup (options_of job) fault × says (error_lines fault)

-- Memory, reading or writing failed, and that was said.
abbrev pub HasFailed : LadderJob → (unread unread' held held' : Option (List ℕ)) → (says : List ℕ → Type 0) → Type 0
HasFailed job unread unread' held held' says =
    (fault : RunFault) × LadderBreaks job unread unread' held held' fault × says (error_lines fault)
