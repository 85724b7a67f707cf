-- The job by its run.
use Rattle.std.proofs.Common.{◌≡◌, ◌⊎◌, ℕ, ◌∷◌, List, [], Option, None, Some, Result, Err, refl, sym, ap, subst}
use Rattle.std.proofs.Common.{◌∙◌, inl, inr, arith}
use Rattle.std.specs.Io.KnownBytes.{Consumes}
use Rattle.std.proofs.KnownBytes.{Consumes-nil}
use Rattle.uecp_text.specs.declared.run_fault.RunFault.{RunFault}
use Rattle.uecp_text.specs.declared.run_fault.RunFault.TheVariants as run
use Rattle.uecp_text.specs.Faults.{Fails, status_of}
use Rattle.uecp_text.specs.Input.{texts_of}
use Rattle.uecp_text.specs.Run.{Runs, RunsWhole}
use Rattle.uecp_jobs.specs.Setups.{RefusesSetup}
use Rattle.uecp_jobs.proofs.Public.{whole_part, not_failed, breaks_fails, setup_wants, says_status, stopped, same_fault}
use Rattle.commands.specs.declared.line_options.LadderForm.{LadderForm}
use Rattle.ladders.specs.declared.ladder_job.LadderJob.{LadderJob}
use Rattle.ladders.specs.declared.playing.Drawing.{Drawing}
use Rattle.ladders.specs.Jobs.{options_of, drawn_at_first, last_lines, LadderPrints, LadderBreaks, Wrote, DoesLadder}
use Rattle.ladders.specs.Playing.{Drawn, Draws}
use Rattle.ladders.specs.View.{drawn_of}

-- the interpreter's run is that of what it has drawn
pub drew : (job : LadderJob) (d : Drawing) (unread unread' held held' : Option (List ℕ))
    (result : Result (Unit {0}) RunFault) →
    drawn_of d ≡ drawn_at_first (options_of job) → d.form ≡ job.form →
    RunsWhole (λ (d : Drawing) text outcome (d' : Drawing). Draws (drawn_of d) text outcome (drawn_of d')
    × (d'.form ≡ d.form)) d (λ (d : Drawing). last_lines d.form (drawn_of d)) unread unread' held held' result →
    DoesLadder job unread unread' held held' result
drew job d unread unread' held held' result made is_form ran =
    subst (λ (form : LadderForm). RunsWhole Draws (drawn_at_first (options_of job)) (last_lines form)
    unread unread' held held' result) is_form
    (subst (λ v. RunsWhole Draws v (last_lines d.form) unread unread' held held' result) made
    (whole_part (λ (d : Drawing) text outcome (d' : Drawing). Draws (drawn_of d) text outcome (drawn_of d')
    × (d'.form ≡ d.form)) (λ (form : LadderForm). Draws) drawn_of (λ (d : Drawing). d.form)
    (λ v text outcome v' m. m) d
    (λ (d : Drawing). last_lines d.form (drawn_of d)) last_lines unread unread' held held' result (λ v'. refl) ran))

-- a text that stops such a run is refused
stop_status : (v v' : Drawn) (texts : List (ℕ × List ℕ)) (lines : List ℕ)
    (fault : RunFault) → Runs Draws v texts lines (Some fault) v' → status_of fault ≡ 1
stop_status v v' [] lines fault (lines_are, stop, same) = let none : Some fault ≡ None = stop in cc
stop_status v v' ((number, text) ∷ texts) lines fault ran = elim ran [
  | inl taken ↦ stop_status taken.2 v' texts taken.1 fault taken.5
  | inr (inl (refusal, refused, none, stop)) ↦
      let same : fault ≡ run.Text number refusal = let e : Some fault ≡ Some (run.Text number refusal) = stop in cc in
      ap status_of same
  | inr (inr (ended, stop)) ↦ absurd ended
]

prints_status : (job : LadderJob) (input written : List ℕ) (fault : RunFault)
    → LadderPrints job input (stopped fault) written
    → status_of fault ≡ 1
prints_status job input written fault (v', ran) = stop_status _ v' (texts_of input) written fault ran

-- what is said where no encoder was made
abbrev pub IsUnmade : LadderJob → RunFault → Type 0
IsUnmade job fault = (fault ≡ run.OutOfMemory) ⊎ RefusesSetup (options_of job) fault

unmade_wants : (job : LadderJob) (fault : RunFault) → IsUnmade job fault → status_of fault ≡ 3
    → fault ≡ run.OutOfMemory
unmade_wants job fault (inl is) three = is
unmade_wants job fault (inr refused) three = setup_wants (options_of job) fault refused three

unmade_refuses : (job : LadderJob) (fault : RunFault) → IsUnmade job fault → status_of fault ≡ 2
    → RefusesSetup (options_of job) fault
unmade_refuses job fault (inl is) two =
    absurd (let three : 3 ≡ 2 = sym (ap status_of is) ∙ two in omega (arith, three))
unmade_refuses job fault (inr refused) two = refused

unmade_status : (job : LadderJob) (fault : RunFault) → IsUnmade job fault → status_of fault ≡ 1 → ⊥
unmade_status job fault (inl is) one = let three : 3 ≡ 1 = sym (ap status_of is) ∙ one in omega (arith, three)
unmade_status job fault (inr refused) one =
    says_status (options_of job) fault refused one

-- a run that broke failed
ladder_breaks_fails : (job : LadderJob) (unread unread' held held' : Option (List ℕ)) (fault : RunFault)
    → LadderBreaks job unread unread' held held' fault → Fails fault
ladder_breaks_fails job unread unread' held held' fault breaks =
    breaks_fails Draws (drawn_at_first (options_of job)) (last_lines job.form) unread unread' held held' fault breaks

-- no fault is told as done
pub never_done : (fault : RunFault) → status_of fault ≡ 0 → ⊥
never_done (run.Text number refusal) is = let no : 1 ≡ 0 = is in omega (arith, no)
never_done (run.Services refusal) is = let no : 2 ≡ 0 = is in omega (arith, no)
never_done run.NotAList is = let no : 2 ≡ 0 = is in omega (arith, no)
never_done run.Address is = let no : 2 ≡ 0 = is in omega (arith, no)
never_done run.TooLong is = let no : 3 ≡ 0 = is in omega (arith, no)
never_done run.Reading is = let no : 3 ≡ 0 = is in omega (arith, no)
never_done run.Writing is = let no : 3 ≡ 0 = is in omega (arith, no)
never_done run.OutOfMemory is = let no : 3 ≡ 0 = is in omega (arith, no)
never_done run.Listening is = let no : 3 ≡ 0 = is in omega (arith, no)
never_done run.Connection is = let no : 3 ≡ 0 = is in omega (arith, no)
never_done run.Outstanding is = let no : 3 ≡ 0 = is in omega (arith, no)

module _ (job : LadderJob) (unread unread' held held' : Option (List ℕ)) (unmoved unwritten : Type 0) (fault : RunFault)
    (does : ((f : RunFault) × (stopped fault ≡ stopped f) × IsUnmade job f × unmoved × unwritten)
    ⊎ DoesLadder job unread unread' held held' (stopped fault)) where
  pub refused_by : status_of fault ≡ 1 → Wrote job unread unread' (Err fault) held held'
  refused_by is = elim does [
    | inl (f, same, unmade, reader, writer) ↦ absurd
        (unmade_status job f unmade (sym (ap status_of (same_fault fault f same)) ∙ is))
    | inr (inl (f, same, breaks)) ↦ absurd (let one : 1
        ≡ 3 = not_failed f 1 (ladder_breaks_fails job unread unread' held
        held' f breaks) (sym (ap status_of (same_fault fault f same)) ∙ is) in omega (arith, one))
    | inr (inr wrote) ↦ wrote
  ]

  pub undescribed_by : status_of fault ≡ 2 → RefusesSetup (options_of job) fault × unmoved × unwritten
  undescribed_by is = elim does [
    | inl (f, same, unmade, reader, writer) ↦ (
      subst (RefusesSetup (options_of job)) (sym (same_fault fault f same))
          (unmade_refuses job f unmade (sym (ap status_of (same_fault fault f same)) ∙ is)),
      reader,
      writer,
    )
    | inr (inl (f, same, breaks)) ↦ absurd (let two : 2
        ≡ 3 = not_failed f 2 (ladder_breaks_fails job unread unread' held
        held' f breaks) (sym (ap status_of (same_fault fault f same)) ∙ is) in omega (arith, two))
    | inr (inr (input, written, is_input, prints, appends)) ↦ absurd
        (let two : 1 ≡ 2 = sym (prints_status job input written fault prints) ∙ is in omega (arith, two))
  ]

  pub failed_by : (unmoved → unread' ≡ unread) → (unwritten → held' ≡ held) → status_of fault ≡ 3
      → LadderBreaks job unread unread' held held' fault
  failed_by stays kept is = elim does [
    | inl (f, same, unmade, reader, writer) ↦
        (let same_as = same_fault fault f same in
        let wanting : fault ≡ run.OutOfMemory = same_as ∙ unmade_wants job f unmade (sym (ap status_of same_as) ∙ is) in
        subst (LadderBreaks job unread unread' held held') (sym wanting)
        (inl (
          ([], subst (λ left. Consumes unread left []) (sym (stays reader)) (Consumes-nil unread), tt),
          kept writer,
        )))
    | inr (inl (f, same, breaks)) ↦ subst (LadderBreaks job unread unread' held held') (sym (same_fault fault f same))
        breaks
    | inr (inr (input, written, is_input, prints, appends)) ↦ absurd
        (let three : 1 ≡ 3 = sym (prints_status job input written fault prints) ∙ is in omega (arith, three))
  ]
