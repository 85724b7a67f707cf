-- A script of phrases that is made to fit, line by line, and then made (profile).
use Rattle.std.specs.Prelude.{◌≡◌, ◌⊎◌, ◌≤◌, ℕ, ◌+◌, List, [], ◌∷◌, ◌++◌, codes, Option, Some, None}
use Rattle.rds_text.specs.declared.programme_type.Region.{Region}
use Rattle.uecp_text.specs.Faults.{error_lines}
use Rattle.uecp_text.specs.Input.{lines_of, said}
use Rattle.uecp_text.specs.Run.{IsInput, IsUnread}
use Rattle.uecp_text.specs.declared.run_fault.RunFault.{RunFault}
use Rattle.uecp_text.specs.declared.run_fault.RunFault.TheVariants.{OutOfMemory}
use Rattle.notices.specs.Told.{Told, Says}
use Rattle.phrase_scripts.specs.Lines.{Line, SaysLine}
use Rattle.titles.specs.Lines.{SaysNeither, SaysRefitted}
use Rattle.line_batches.specs.Intake.{fitted_line}
use Rattle.commands.specs.declared.job.Job.{Job}
use Rattle.commands.specs.declared.job.Job.TheVariants.{MakeWith}
use Rattle.uecp_jobs.specs.Jobs.{HasFailed, IsDone, IsRefused}

-- ---- A line.

-- It is taken as it stands: it is empty or a comment; or its text says something so, or says nothing with its strings
-- made to fit either.
abbrev pub Stands : Region → (line : List ℕ) → Type 0
Stands region line =
    (said line ≡ None)
    ⊎ ((text : List ℕ) × (said line ≡ Some text)
    × (((says : Line) × SaysLine region text says) ⊎ SaysNeither region text))

-- What stands for the line: nothing, where it is taken as it stands; or where its text says something only with its
-- strings made to fit, the text with those.
abbrev pub IsFitted : Region → (line : List ℕ) → (fitted : Option (List ℕ)) → Type 0
IsFitted region line None = Stands region line
IsFitted region line (Some fitted) =
    (text : List ℕ) × (says : Line) × (said line ≡ Some text) × SaysRefitted region text says (Some fitted)

-- What is taken then in the place of the line of this number: the line, and nothing is said; or the text, as a line,
-- and that was said.
abbrev pub TakesFitted : (number : ℕ) → (line : List ℕ) → (fitted : Option (List ℕ)) → (taken : List ℕ)
    → (told told' : Told) → Type 0
TakesFitted number line None taken told told' = (taken ≡ line) × (told' ≡ told)
TakesFitted number line (Some fitted) taken told told' =
    (taken ≡ fitted ++ codes "\n") × Says told told' (fitted_line number fitted)

-- So of the line of this number.
abbrev pub IsTaken : Region → (number : ℕ) → (line taken : List ℕ) → (told told' : Told) → Type 0
IsTaken region number line taken told told' =
    (fitted : Option (List ℕ)) × IsFitted region line fitted × TakesFitted number line fitted taken told told'

-- So of lines one after another, the first of which has this number: these make the script.
abbrev pub AreTaken : Region → (number : ℕ) → (lines : List (List ℕ)) → (script : List ℕ) → (told told' : Told) → Type 0
AreTaken region number [] script told told' = (script ≡ []) × (told' ≡ told)
AreTaken region number (line ∷ lines) script told told' =
    (taken more : List ℕ) × (between : Told) × IsTaken region number line taken told between
    × (script ≡ taken ++ more) × AreTaken region (number + 1) lines more between told'

-- ---- An input.

-- The job that makes a script of phrases.
abbrev pub making : Region → Job
making region = MakeWith (record { words = Some region })

-- The script was made as `make --words` makes it.
pub record Makes (region : Region) (status : ℕ) (script : List ℕ) (held held' : Option (List ℕ))
    (told told' : Told) : Type
    0 where
  pub left : Option (List ℕ)
  pub most : status ≤ 3
  pub done : status ≡ 0 → IsDone (making region) (Some script) left held held' × (told' ≡ told)
  pub refused : status ≡ 1 → IsRefused (making region) (Some script) left held held' (Says told told')
  pub failed : status ≡ 3 → HasFailed (making region) (Some script) left held held' (Says told told')
  pub some : status ≡ 2 → ⊥

-- The input was read to its end, and the script that is taken in the place of its lines was made.
abbrev pub HasMade : Region → (status : ℕ) → (unread unread' held held' : Option (List ℕ)) → (told told' : Told)
    → Type 0
HasMade region status unread unread' held held' told told' =
    (input script : List ℕ) × (between : Told) × IsInput unread unread' input
    × AreTaken region 1 (lines_of input) script told between × Makes region status script held held' between told'

-- It could not be read, or memory was wanting for a line, and what stood before it was taken. That was said, and
-- nothing was written.
abbrev pub HasMadeNothing : Region → (unread unread' held held' : Option (List ℕ)) → (told told' : Told) → Type 0
HasMadeNothing region unread unread' held held' told told' =
    (held' ≡ held)
    × (((fault : RunFault) × IsUnread unread unread' fault × Says told told' (error_lines fault))
    ⊎ ((input script : List ℕ) × (before after : List (List ℕ)) × (between : Told) × IsInput unread unread' input
    × (lines_of input ≡ before ++ after) × AreTaken region 1 before script told between
    × Says between told' (error_lines OutOfMemory)))

-- What comes of it.
abbrev pub MakesFitted : Region → (status : ℕ) → (unread unread' held held' : Option (List ℕ)) → (told told' : Told)
    → Type 0
MakesFitted region status unread unread' held held' told told' =
    HasMade region status unread unread' held held' told told'
    ⊎ ((status ≡ 3) × HasMadeNothing region unread unread' held held' told told')
