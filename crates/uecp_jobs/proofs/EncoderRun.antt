-- The job `encoder` by what was served.
use Rattle.std.proofs.Common.{◌≡◌, ◌≢◌, ◌⊎◌, ◌<◌, ◌≤◌, ℕ, List, [], length, Option, None, refl, sym, ap, subst, ◌∙◌}
use Rattle.std.proofs.Common.{inl, inr, arith}
use Rattle.std.specs.Io.KnownBytes.{Appends}
use Rattle.std.proofs.KnownBytes.{Appends-nil}
use Rattle.rds_store.specs.Value.{Store}
use Rattle.rds_store.specs.Step.{step}
use Rattle.uecp_encoder.specs.State.{EncoderState}
use Rattle.uecp_net.specs.Sessions.{Outcome, Sessions}
use Rattle.uecp_text.specs.declared.run_fault.RunFault.{RunFault}
use Rattle.uecp_text.specs.declared.run_fault.RunFault.TheVariants as run
use Rattle.uecp_text.specs.Faults.{Fails, status_of, error_lines}
use Rattle.uecp_text.specs.Written.{Begins}
use Rattle.commands.specs.declared.job.Job.{Job}
use Rattle.commands.specs.declared.job.Job.TheVariants.{Encoder}
use Rattle.uecp_jobs.specs.Setups.{Options, IsSetup, encoder_at_first}
use Rattle.uecp_jobs.specs.Jobs.{options, RefusesJob}
use Rattle.uecp_jobs.specs.EncoderRun.{IsEncoder, ServedSome, Serves, HasNotServedAll, connection_lines}
use Rattle.uecp_jobs.proofs.Doing.{not_failed, setup_wants, job_status, stopped, same_fault}

-- a refusal of status 3 is want of memory
encoder_wants : (job : Job) (fault : RunFault) → IsEncoder job → RefusesJob job fault → status_of fault ≡ 3
    → fault ≡ run.OutOfMemory
encoder_wants (Encoder site encoder sets services port connections turns) fault encodes refused is =
    setup_wants (options site encoder sets services.items) fault refused is
encoder_wants job fault encodes refused is = absurd encodes

-- none was served
pub served_none : {C I O : Type 0} (opens : C → Option (I × O) → C → Type 0) (closes : C → I → O → C → Type 0)
    (remaining : I → Option (List ℕ)) (contents : O → Option (List ℕ)) (job : Job) → IsEncoder job
    → (c c' : C) (held held' : Option (List ℕ)) →
    c' ≡ c → held' ≡ held → ServedSome opens closes remaining contents job c c' held held'
served_none opens closes remaining contents (Encoder site encoder sets services port connections turns) encodes c c'
    held held' unopened unwritten = (
      [],
      _,
      omega arith,
      (refl, unopened),
      (
        [],
        [],
        refl,
        subst (λ now. Appends held now []) (sym unwritten) (Appends-nil held),
      ),
    )
served_none opens closes remaining contents job encodes c c' held held' unopened unwritten = absurd encodes

module _ {C I O : Type 0} (opens : C → Option (I × O) → C → Type 0) (closes : C → I → O → C → Type 0)
    (remaining : I → Option (List ℕ)) (contents : O → Option (List ℕ)) (job : Job) (encodes : IsEncoder job) (c c' : C)
    (held held' : Option (List ℕ)) (says : List ℕ → Type 0) (unwritten unopened : Type 0) (fault : RunFault)
    (serves : ((f : RunFault) × (stopped fault ≡ stopped f) × RefusesJob job f × unwritten × unopened)
    ⊎ Serves opens closes remaining contents job c c' held held' (stopped fault)) where
  pub encoder_not_one : status_of fault ≢ 1
  encoder_not_one is = elim serves [
    | inl (f, same, refused, writer, connect) ↦ job_status job f refused
        (sym (ap status_of (same_fault fault f same)) ∙ is)
    | inr (inl (listening, fewer)) ↦ (let both : 1 ≡ 3 = sym is ∙ ap status_of listening in omega (arith, both))
    | inr (inr (fails, some)) ↦ (let both : 1 ≡ 3 = not_failed fault 1 fails is in omega (arith, both))
  ]

  pub encoder_undescribed : status_of fault ≡ 2 → RefusesJob job fault × unwritten × unopened
  encoder_undescribed is = elim serves [
    | inl (f, same, refused, writer, connect) ↦ (
      subst (RefusesJob job) (sym (same_fault fault f same)) refused,
      writer,
      connect,
    )
    | inr (inl (listening, fewer)) ↦ absurd (let both : 2 ≡ 3 = sym is ∙ ap status_of listening in omega (arith, both))
    | inr (inr (fails, some)) ↦ absurd (let both : 2 ≡ 3 = not_failed fault 2 fails is in omega (arith, both))
  ]

  pub encoder_failed : (unopened → c' ≡ c) → (unwritten → held' ≡ held) → says (error_lines fault)
      → status_of fault ≡ 3 → HasNotServedAll opens closes remaining contents job c c' held held' says
  encoder_failed stays kept begins is = record {
    fault = fault;
    serves = elim serves [
      | inl (f, same, refused, writer, connect) ↦
          (let same_as = same_fault fault f same in
          let wanting : fault ≡ run.OutOfMemory = same_as ∙ encoder_wants job f encodes refused
          (sym (ap status_of same_as) ∙ is) in
          inr (
            subst Fails (sym wanting) tt,
            served_none opens closes remaining contents job encodes c c' held held'
                (stays connect) (kept writer),
          ))
      | inr served ↦ served
    ];
    said = begins;
  }

-- ---- a run of connections
-- What was served of an encoder with these options: all connections; or fewer.
abbrev pub ServedBy : {C I O : Type 0} → (opens : C → Option (I × O) → C → Type 0) → (closes : C → I → O → C → Type 0)
    → (remaining : I → Option (List ℕ)) → (contents : O → Option (List ℕ)) → (connections turns : ℕ) → C → C
    → (held held' : Option (List ℕ)) → Options → Type 0
ServedBy opens closes remaining contents connections turns c c' held held' o =
    IsSetup o × ((outcomes : List Outcome) × (e' : EncoderState Store) × (length outcomes ≡ connections)
    × Sessions step opens closes remaining contents turns (encoder_at_first o) c outcomes e' c'
    × Appends held held' (connection_lines 1 outcomes))

abbrev pub SomeBy : {C I O : Type 0} → (C → Option (I × O) → C → Type 0) → (C → I → O → C → Type 0)
    → (I → Option (List ℕ)) → (O → Option (List ℕ)) → (connections turns : ℕ) → C → C → (held held' : Option (List ℕ))
    → Options → Type 0
SomeBy opens closes remaining contents connections turns c c' held held' o =
    (outcomes : List Outcome) × (e' : EncoderState Store) × (length outcomes ≤ connections)
    × Sessions step opens closes remaining contents turns (encoder_at_first o) c outcomes e' c'
    × Begins held held' (connection_lines 1 outcomes)

abbrev pub FewerBy : {C I O : Type 0} → (opens : C → Option (I × O) → C → Type 0) → (closes : C → I → O → C → Type 0)
    → (remaining : I → Option (List ℕ)) → (contents : O → Option (List ℕ)) → (connections turns : ℕ) → C → C
    → (held held' : Option (List ℕ)) → Options → Type 0
FewerBy {C} opens closes remaining contents connections turns c c' held held' o =
    IsSetup o
    × ((outcomes : List Outcome) × (e' : EncoderState Store) × (last : C) × (length outcomes < connections)
    × Sessions step opens closes remaining contents turns (encoder_at_first o) c outcomes e' last
    × opens last None c'
    × Appends held held' (connection_lines 1 outcomes))

module _ {C I O : Type 0} (opens : C → Option (I × O) → C → Type 0) (closes : C → I → O → C → Type 0)
    (remaining : I → Option (List ℕ)) (contents : O → Option (List ℕ)) (connections turns : ℕ) (c c' : C)
    (held held' : Option (List ℕ)) (o : Options) (e e' : EncoderState Store)
    (is_setup : IsSetup o) (at_first : e ≡ encoder_at_first o) where
  pub served_by : (outcomes : List Outcome) × (length outcomes ≡ connections)
      × Sessions step opens closes remaining contents turns e c outcomes e' c'
      × Appends held held' (connection_lines 1 outcomes) →
      ServedBy opens closes remaining contents connections turns c c' held held' o
  served_by (outcomes, count, sessions, appends) = (
    is_setup,
    (
      outcomes,
      e',
      count,
      subst (λ first.
          Sessions step opens closes remaining contents turns first c outcomes e' c') at_first sessions,
      appends,
    ),
  )

  pub fewer_by : (outcomes : List Outcome) × (last : C) × (length outcomes < connections)
      × Sessions step opens closes remaining contents turns e c outcomes e' last × opens last None c'
      × Appends held held' (connection_lines 1 outcomes) →
      FewerBy opens closes remaining contents connections turns c c' held held' o
  fewer_by (outcomes, last, count, sessions, none, appends) = (
    is_setup,
    (
      outcomes,
      e',
      last,
      count,
      subst (λ first.
          Sessions step opens closes remaining contents turns first c outcomes e' last) at_first sessions,
      none,
      appends,
    ),
  )

  pub some_by : (outcomes : List Outcome) × (length outcomes ≤ connections)
      × Sessions step opens closes remaining contents turns e c outcomes e' c'
      × Begins held held' (connection_lines 1 outcomes) →
      SomeBy opens closes remaining contents connections turns c c' held held' o
  some_by (outcomes, count, sessions, begins) = (
    outcomes,
    e',
    count,
    subst (λ first. Sessions step opens closes remaining contents turns first c outcomes e' c') at_first sessions,
    begins,
  )

pub few_statuses : (fault : RunFault) (status : ℕ) → status ≡ status_of fault → status ≤ 3
few_statuses (run.Text number refusal) status is = omega arith
few_statuses (run.Services refusal) status is = omega arith
few_statuses run.NotAList status is = omega arith
few_statuses run.Address status is = omega arith
few_statuses fault status is = omega arith
