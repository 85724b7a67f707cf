-- A run of conformance cases against an encoder (profile).
use Rattle.std.specs.Prelude.{◌≡◌, ◌≢◌, ◌⊎◌, ◌+◌, ◌*◌, ◌/◌, ◌%◌, ◌==◌, ◌≤◌, ℕ, List, [], ◌∷◌, length}
use Rattle.std.specs.Prelude.{codes}
use Rattle.std.specs.Prelude.{Option, None, Result, Ok, Err, if◌then◌else◌}
use Rattle.std.specs.Option.{option_map}
use Rattle.std.specs.String.{string_bytes}
use Rattle.std.specs.Io.KnownBytes.{Appends}
use Rattle.uecp_text.specs.declared.run_fault.RunFault.{RunFault}
use Rattle.uecp_text.specs.declared.run_fault.RunFault.TheVariants as run
use Rattle.uecp_text.specs.Written.{Begins}
use Rattle.conformance.specs.declared.case.Case.{Case}
use Rattle.commands.specs.declared.conformance_options.ConformanceOptions.{ConformanceOptions}
use Rattle.conformance_command.specs.declared.went.Went.{Went}
use Rattle.conformance_command.specs.declared.went.Went.TheVariants.{NotHeard, Silent}
use Rattle.conformance_command.specs.declared.way.Way.{Way}
use Rattle.conformance_command.specs.Running.{RunsCase}
use Rattle.conformance_command.specs.Choosing.{chosen, tally_of}
use Rattle.conformance_command.specs.Telling.{first_line, case_lines, bail_line, last_line}

-- ---- What is asked for.

-- The address is that of one encoder, and the limits of time are some.
pub record IsInRange (job : ConformanceOptions) : Type 0 where
  pub site : (1 ≤ job.site) × (job.site ≤ 1023)
  pub encoder : (1 ≤ job.encoder) × (job.encoder ≤ 63)
  pub timeout : 1 ≤ job.timeout
  pub quiet : 1 ≤ job.quiet
  pub silent : (1 ≤ job.silent) × (job.silent ≤ 86400)

-- The encoder's address.
abbrev pub own_address : ConformanceOptions → ℕ
own_address job = job.site * 64 + job.encoder

-- How many parts of this length make up a whole, the last of them perhaps not whole.
abbrev pub parts_of : (whole part : ℕ) → ℕ
parts_of whole part = whole / part + (if whole % part == 0 then 0 else 1)

-- How many quiet times make up the timeout.
abbrev pub patience_of : ConformanceOptions → ℕ
patience_of job = parts_of job.timeout job.quiet

-- How many quiet times make up the seconds after which a run ends where nothing comes.
abbrev pub silent_of : ConformanceOptions → ℕ
silent_of job = parts_of (job.silent * 1000) job.quiet

-- How the cases are run and told.
abbrev pub way_of : ConformanceOptions → Way
way_of job = record {
  own = own_address job;
  patience = patience_of job;
  silent = silent_of job;
  seconds = job.silent;
  json = job.json;
  verbose = job.verbose;
}

-- The name of the case or group that alone is to be run, where one is given.
abbrev pub only_of : ConformanceOptions → Option (List ℕ)
only_of job = option_map string_bytes job.only

-- ---- What is done.

-- Where connections come from, and what the writer holds.
pub record Standing (C : Type 0) : Type 0 where
  pub connect : C
  pub held : Option (List ℕ)

-- A line could not be told: memory or writing failed.
abbrev pub IsUntold : RunFault → Type 0
IsUntold fault = (fault ≡ run.Writing) ⊎ (fault ≡ run.OutOfMemory)

-- A writer was given these lines: it got them, or a beginning of them where they could not be told.
abbrev pub TellsLines : (lines : List ℕ) → (held held' : Option (List ℕ)) → Result (Unit {0}) RunFault → Type 0
TellsLines lines held held' (Ok done) = Appends held held' lines
TellsLines lines held held' (Err fault) = Begins held held' lines × IsUntold fault

-- The writer got these lines, and nothing else was done.
abbrev pub Tells : {C : Type 0} → (lines : List ℕ) → (x x' : Standing C) → Type 0
Tells lines x x' = (x'.connect ≡ x.connect) × Appends x.held x'.held lines

-- It could not be given them: it got a beginning of them at most, and nothing else was done.
abbrev pub TellsNot : {C : Type 0} → (lines : List ℕ) → RunFault → (x x' : Standing C) → Type 0
TellsNot lines fault x x' = (x'.connect ≡ x.connect) × Begins x.held x'.held lines × IsUntold fault

module _ {C I O : Type 0} (opens : C → Option (I × O) → C → Type 0) (closes : C → I → O → C → Type 0)
    (remaining : I → Option (List ℕ)) (contents : O → Option (List ℕ)) (way : Way) where
  -- This case was run, with connections from there: so many bytes were left by joining, and these came.
  abbrev pub Runs : Case → Went → (left : ℕ) → (came : List ℕ) → (c c' : C) → Type 0
  Runs case went left came c c' = RunsCase opens closes remaining contents way.own way.patience way.silent
      case.steps.items c c' went left came

  -- A case was run and heard, and something came; and then the writer got its lines.
  abbrev pub RunsAndTells : (number : ℕ) → Case → Went → (x x' : Standing C) → Type 0
  RunsAndTells number case went x x' = (left : ℕ) × (came : List ℕ) × Runs case went left came x.connect x'.connect
      × (went ≢ NotHeard) × (went ≢ Silent) × Appends x.held x'.held (case_lines way number case went left came)

  -- These cases were run and went so, one after another, each from where the one before ended, and numbered from this
  -- on; and nothing else was done.
  abbrev pub RunsCases : (number : ℕ) → List Case → List Went → (x x' : Standing C) → Type 0
  RunsCases number [] [] x x' = x' ≡ x
  RunsCases number (case ∷ cases) (went ∷ wents) x x' =
      (y : Standing C) × RunsAndTells number case went x y × RunsCases (number + 1) cases wents y x'
  RunsCases number cases wents x x' = ⊥

  -- A run stopped at this case, for this: there was no connection to be had, which was told or begun to be told; there
  -- was no memory to begin it; or it was run, and then there was no memory for what came or for its lines, or they
  -- could not be written; or nothing came of it, and it was told so.
  abbrev pub StopsAt : (number : ℕ) → Case → RunFault → (x x' : Standing C) → Type 0
  StopsAt number case fault x x' =
      ((fault ≡ run.Connection) × opens x.connect None x'.connect × Begins x.held x'.held (bail_line way.json))
      ⊎ ((fault ≡ run.OutOfMemory) × (x' ≡ x))
      ⊎ ((went : Went) × (left : ℕ) × (came : List ℕ) × Runs case went left came x.connect x'.connect
      × Begins x.held x'.held (case_lines way number case went left came) × IsUntold fault)
      ⊎ ((fault ≡ run.Outstanding) × (left : ℕ) × (came : List ℕ) × Runs case Silent left came x.connect x'.connect
      × Appends x.held x'.held (case_lines way number case Silent left came))

  -- A run stopped at one of these cases, for this; those before it were run and told, and nothing else was done.
  abbrev pub StopsAmong : (number : ℕ) → List Case → RunFault → (x x' : Standing C) → Type 0
  StopsAmong number [] fault x x' = ⊥
  StopsAmong number (case ∷ cases) fault x x' =
      StopsAt number case fault x x'
      ⊎ ((went : Went) × (y : Standing C) × RunsAndTells number case went x y
      × StopsAmong (number + 1) cases fault y x')

  -- These cases were run and went so, and the writer got their report: what stands first, a line for each as it ended,
  -- and what stands last.
  pub record RunsAll (cases : List Case) (wents : List Went) (x x' : Standing C) : Type 0 where
    pub begun : Standing C
    pub ended : Standing C
    pub first : Tells (first_line way.json (length cases)) x begun
    pub ran : RunsCases 1 cases wents begun ended
    pub last : Tells (last_line way.json (length cases) (tally_of cases wents)) ended x'

  -- A run over these cases broke off, for this: what stands first could not be told; or it stopped at one of them; or
  -- all were run, and what stands last could not be told.
  abbrev pub BreaksOff : List Case → RunFault → (x x' : Standing C) → Type 0
  BreaksOff cases fault x x' =
      TellsNot (first_line way.json (length cases)) fault x x'
      ⊎ ((y : Standing C) × Tells (first_line way.json (length cases)) x y × StopsAmong 1 cases fault y x')
      ⊎ ((wents : List Went) × (y z : Standing C) × Tells (first_line way.json (length cases)) x y
      × RunsCases 1 cases wents y z × TellsNot (last_line way.json (length cases) (tally_of cases wents)) fault z x')

-- No case and no group has the name that is given.
abbrev pub IsUnknown : (only : Option (List ℕ)) → List Case → Type 0
IsUnknown only cases = (only ≢ None) × (chosen only cases ≡ [])

-- What is said of that.
abbrev pub unknown_line : List ℕ
unknown_line = codes "uecp: only: no case and no group has this name\n"
