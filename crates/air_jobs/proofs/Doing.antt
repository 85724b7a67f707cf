-- The job by its run.
use Rattle.std.proofs.Common.{◌≡◌, ◌⊎◌, ℕ, ◌∷◌, List, [], Option, None, Some, Result, Err, refl, sym, ap, subst}
use Rattle.std.proofs.Common.{◌∙◌, inl, inr, arith}
use Rattle.std.specs.Io.KnownBytes.{Consumes}
use Rattle.std.proofs.KnownBytes.{Consumes-nil}
use Rattle.uecp_text.specs.declared.run_fault.RunFault.{RunFault}
use Rattle.uecp_text.specs.declared.run_fault.RunFault.TheVariants as run
use Rattle.uecp_text.specs.Faults.{Fails, status_of}
use Rattle.uecp_text.specs.Input.{texts_of}
use Rattle.uecp_text.specs.Run.{Runs, RunsWhole}
use Rattle.uecp_encoder.specs.State.{EncoderState}
use Rattle.rds_store.specs.Value.{Store}
use Rattle.output_forms.specs.declared.form.Form.{Form}
use Rattle.output_forms.specs.Forms.{answer_lines}
use Rattle.uecp_jobs.specs.Commands.{AnswersIn}
use Rattle.uecp_jobs.specs.Setups.{RefusesSetup, encoder_at_first}
use Rattle.uecp_jobs.proofs.Public.{whole_part, not_failed, breaks_fails, setup_wants, says_status, stopped, same_fault}
use Rattle.air_jobs.specs.declared.air_job.AirJob.{AirJob}
use Rattle.air_jobs.specs.declared.answering.Asked.{Asked}
use Rattle.air_jobs.specs.declared.answering.AnsweringOnAir.{AnsweringOnAir}
use Rattle.air_jobs.specs.Airing.{last_lines}
use Rattle.air_jobs.specs.AirJobs.{options_of, AirPrints, AirBreaks, Wrote, DoesAir}
use Rattle.air_jobs.specs.View.{asked_of}

-- the interpreter's run is that of its encoder
pub answered : (job : AirJob) (a : AnsweringOnAir) (unread unread' held held' : Option (List ℕ))
    (result : Result (Unit {0}) RunFault) →
    a.encoder ≡ encoder_at_first (options_of job) → a.asked ≡ asked_of job →
    RunsWhole (λ (a : AnsweringOnAir) text outcome (a' : AnsweringOnAir).
    AnswersIn (answer_lines a.asked.form) a.encoder
    text outcome a'.encoder × (a'.asked ≡ a.asked)) a
    (λ (a : AnsweringOnAir). last_lines a.asked.form a.asked.store a.asked.groups a.encoder)
    unread unread' held held' result →
    DoesAir job unread unread' held held' result
answered job a unread unread' held held' result encoder as_asked ran =
    subst (λ (k : Asked). RunsWhole (AnswersIn (answer_lines k.form)) (encoder_at_first (options_of job))
    (last_lines k.form k.store k.groups) unread unread' held held' result) as_asked
    (subst (λ e. RunsWhole (AnswersIn (answer_lines a.asked.form)) e
    (last_lines a.asked.form a.asked.store a.asked.groups) unread unread' held held' result) encoder
    (whole_part (λ (a : AnsweringOnAir) text outcome (a' : AnsweringOnAir). AnswersIn (answer_lines a.asked.form)
    a.encoder text outcome a'.encoder × (a'.asked ≡ a.asked)) (λ (k : Asked). AnswersIn (answer_lines k.form))
    (λ (a : AnsweringOnAir). a.encoder) (λ (a : AnsweringOnAir). a.asked) (λ v text outcome v' m. m) a
    (λ (a : AnsweringOnAir). last_lines a.asked.form a.asked.store a.asked.groups a.encoder)
    (λ (k : Asked). last_lines k.form k.store k.groups)
    unread unread' held held' result (λ v'. refl) ran))

-- a text that stops such a run is refused
stop_status : (form : Form) (v v' : EncoderState Store) (texts : List (ℕ × List ℕ)) (lines : List ℕ)
    (fault : RunFault) → Runs (AnswersIn (answer_lines form)) v texts lines (Some fault) v' → status_of fault ≡ 1
stop_status form v v' [] lines fault (lines_are, stop, same) = let none : Some fault ≡ None = stop in cc
stop_status form v v' ((number, text) ∷ texts) lines fault ran = elim ran [
  | inl taken ↦ stop_status form taken.2 v' texts taken.1 fault taken.5
  | inr (inl (refusal, refused, none, stop)) ↦
      let same : fault ≡ run.Text number refusal = let e : Some fault ≡ Some (run.Text number refusal) = stop in cc in
      ap status_of same
  | inr (inr (ended, stop)) ↦ absurd ended
]

prints_status : (job : AirJob) (input written : List ℕ) (fault : RunFault) → AirPrints job input (stopped fault) written
    → status_of fault ≡ 1
prints_status job input written fault (v', ran) = stop_status job.form _ v' (texts_of input) written fault ran

-- what is said where no encoder was made
abbrev pub IsUnmade : AirJob → RunFault → Type 0
IsUnmade job fault = (fault ≡ run.OutOfMemory) ⊎ RefusesSetup (options_of job) fault

unmade_wants : (job : AirJob) (fault : RunFault) → IsUnmade job fault → status_of fault ≡ 3
    → fault ≡ run.OutOfMemory
unmade_wants job fault (inl is) three = is
unmade_wants job fault (inr refused) three = setup_wants (options_of job) fault refused three

unmade_refuses : (job : AirJob) (fault : RunFault) → IsUnmade job fault → status_of fault ≡ 2
    → RefusesSetup (options_of job) fault
unmade_refuses job fault (inl is) two =
    absurd (let three : 3 ≡ 2 = sym (ap status_of is) ∙ two in omega (arith, three))
unmade_refuses job fault (inr refused) two = refused

unmade_status : (job : AirJob) (fault : RunFault) → IsUnmade job fault → status_of fault ≡ 1 → ⊥
unmade_status job fault (inl is) one = let three : 3 ≡ 1 = sym (ap status_of is) ∙ one in omega (arith, three)
unmade_status job fault (inr refused) one =
    says_status (options_of job) fault refused one

-- a run that broke failed
air_breaks_fails : (job : AirJob) (unread unread' held held' : Option (List ℕ)) (fault : RunFault)
    → AirBreaks job unread unread' held held' fault → Fails fault
air_breaks_fails job unread unread' held held' fault breaks =
    breaks_fails (AnswersIn (answer_lines job.form)) (encoder_at_first (options_of job))
    (last_lines job.form job.store job.groups) unread unread' held held' fault breaks

-- no fault is told as done
pub never_done : (fault : RunFault) → status_of fault ≡ 0 → ⊥
never_done (run.Text number refusal) is = let no : 1 ≡ 0 = is in omega (arith, no)
never_done (run.Services refusal) is = let no : 2 ≡ 0 = is in omega (arith, no)
never_done run.NotAList is = let no : 2 ≡ 0 = is in omega (arith, no)
never_done run.Address is = let no : 2 ≡ 0 = is in omega (arith, no)
never_done run.TooLong is = let no : 3 ≡ 0 = is in omega (arith, no)
never_done run.Reading is = let no : 3 ≡ 0 = is in omega (arith, no)
never_done run.Writing is = let no : 3 ≡ 0 = is in omega (arith, no)
never_done run.OutOfMemory is = let no : 3 ≡ 0 = is in omega (arith, no)
never_done run.Listening is = let no : 3 ≡ 0 = is in omega (arith, no)
never_done run.Connection is = let no : 3 ≡ 0 = is in omega (arith, no)
never_done run.Outstanding is = let no : 3 ≡ 0 = is in omega (arith, no)

module _ (job : AirJob) (unread unread' held held' : Option (List ℕ)) (unmoved unwritten : Type 0) (fault : RunFault)
    (does : ((f : RunFault) × (stopped fault ≡ stopped f) × IsUnmade job f × unmoved × unwritten)
    ⊎ DoesAir job unread unread' held held' (stopped fault)) where
  pub refused_by : status_of fault ≡ 1 → Wrote job unread unread' (Err fault) held held'
  refused_by is = elim does [
    | inl (f, same, unmade, reader, writer) ↦ absurd
        (unmade_status job f unmade (sym (ap status_of (same_fault fault f same)) ∙ is))
    | inr (inl (f, same, breaks)) ↦ absurd (let one : 1 ≡ 3 = not_failed f 1 (air_breaks_fails job unread unread' held
        held' f breaks) (sym (ap status_of (same_fault fault f same)) ∙ is) in omega (arith, one))
    | inr (inr wrote) ↦ wrote
  ]

  pub undescribed_by : status_of fault ≡ 2 → RefusesSetup (options_of job) fault × unmoved × unwritten
  undescribed_by is = elim does [
    | inl (f, same, unmade, reader, writer) ↦ (
      subst (RefusesSetup (options_of job)) (sym (same_fault fault f same))
          (unmade_refuses job f unmade (sym (ap status_of (same_fault fault f same)) ∙ is)),
      reader,
      writer,
    )
    | inr (inl (f, same, breaks)) ↦ absurd (let two : 2 ≡ 3 = not_failed f 2 (air_breaks_fails job unread unread' held
        held' f breaks) (sym (ap status_of (same_fault fault f same)) ∙ is) in omega (arith, two))
    | inr (inr (input, written, is_input, prints, appends)) ↦ absurd
        (let two : 1 ≡ 2 = sym (prints_status job input written fault prints) ∙ is in omega (arith, two))
  ]

  pub failed_by : (unmoved → unread' ≡ unread) → (unwritten → held' ≡ held) → status_of fault ≡ 3
      → AirBreaks job unread unread' held held' fault
  failed_by stays kept is = elim does [
    | inl (f, same, unmade, reader, writer) ↦
        (let same_as = same_fault fault f same in
        let wanting : fault ≡ run.OutOfMemory = same_as ∙ unmade_wants job f unmade (sym (ap status_of same_as) ∙ is) in
        subst (AirBreaks job unread unread' held held') (sym wanting)
        (inl (
          ([], subst (λ left. Consumes unread left []) (sym (stays reader)) (Consumes-nil unread), tt),
          kept writer,
        )))
    | inr (inl (f, same, breaks)) ↦ subst (AirBreaks job unread unread' held held') (sym (same_fault fault f same))
        breaks
    | inr (inr (input, written, is_input, prints, appends)) ↦ absurd
        (let three : 1 ≡ 3 = sym (prints_status job input written fault prints) ∙ is in omega (arith, three))
  ]
