-- What comes of an encoder with its state in a file that is no device.
use Rattle.std.proofs.Common.{◌≡◌, ◌⊎◌, ◌<◌, ℕ, ◌^◌, ◌-◌, Bool, true, false, ◌||◌, List, refl, ap, ◌∙◌, subst, inl, inr}
use Rattle.std.proofs.Common.{if◌then◌else◌}
use Rattle.std.specs.Prelude.{Option, Result, Ok, Err}
use Rattle.commands.specs.declared.encoder_options.EncoderOptions.{EncoderOptions}
use Rattle.commands.specs.Jobs.{is_device}
use Rattle.rds_store.specs.Value.{Store}
use Rattle.uecp_encoder.specs.State.{EncoderState}
use Rattle.uecp_encoder.specs.Keeping.{Kept}
use Rattle.state_files.specs.declared.fault.StateFault.{StateFault}
use Rattle.state_jobs.specs.Texts.{Closed, IsClosed, fault_line}
use Rattle.state_jobs.specs.Kept.{SaysWhy}
use Rattle.state_jobs.proofs.Public.{closed_well, says_more}
use Rattle.device_serving.specs.Logging.{Log}
use Rattle.device_serving.proofs.Public.{run_told}
use Rattle.device_jobs.specs.Limits.{connections_of}
use Rattle.device_jobs.specs.Serving.{ServesIn, HasNoState}
use Rattle.device_jobs.specs.Kept.{ServedKept, plain_log}
use Rattle.device_jobs.proofs.Ending.{not_three}
use Rattle.notices.specs.Told.{Told, Says}

or_left : (a b : Bool) → a || b ≡ false → a ≡ false
or_left true b is = cc
or_left false b is = refl

or_right : (a b : Bool) → a || b ≡ false → b ≡ false
or_right true b is = cc
or_right false b is = is

-- where nothing is asked for that only a device does, the connections are counted, and the store is not told
pub plain_limits : (o : EncoderOptions) → is_device o ≡ false
    → (connections_of o ≡ o.connections) × (o.store ≡ false)
plain_limits o plain =
    let behind = or_left _ _ (or_right _ _ plain) in
    let bounds = or_right _ _ behind in
    let forever : o.forever ≡ false = or_left _ _ bounds in (
      ap (λ f. if f then 2 ^ 64 - 1 else o.connections) forever,
      or_right _ _ (or_right _ _ bounds),
    )

-- what is said where a run came to its end, and its state could not be closed
unclosed : (path : List ℕ) (status : ℕ) (closed : Closed) (told between told' : Told) → status ≡ 0
    → between ≡ told → IsClosed path status closed 3 between told' → SaysWhy path told told'
unclosed path status (Ok well) told between told' zero same is = absurd (let three : 3 ≡ 0 = is.0 ∙ zero in cc)
unclosed path status (Err fault) told between told' zero same is =
    inl (fault, subst (λ x. Says x told' (fault_line path fault)) same is.1)

module _ {K C I O : Type 0} (gives : List ℕ → EncoderState Store → K → Type 0)
    (refuses : List ℕ → StateFault → Type 0) (ends : K → Result (Unit {0}) StateFault → Type 0) (most room : ℕ)
    (leaves : K → Kept Store → Type 0) (is_clean : K → Type 0) (saves fails : K → Kept Store → K → Type 0)
    (opens : C → Option (I × O) → C → Type 0) (closes : C → I → O → C → Type 0) (remaining : I → Option (List ℕ))
    (contents : O → Option (List ℕ)) (turns connections : ℕ) (path : List ℕ) (address sets : ℕ) (services : List ℕ)
    (c c' : C) where
  abbrev In : (l l' : Log) → (said said' : Told) → (status : ℕ) → Type 0
  In = ServesIn most room leaves is_clean saves fails opens closes remaining contents turns connections false gives ends
      path address sets services c c'

  abbrev pub Serves : (l l' : Log) → (said said' : Told) → (status : ℕ) → Type 0
  Serves l l' said said' status =
      In l l' said said' status ⊎ (HasNoState refuses path said said' status × (c' ≡ c) × (l' ≡ l))

  abbrev Left : (held held' : Option (List ℕ)) → Type 0
  Left held held' = ServedKept gives leaves is_clean path address sets services connections held held'

  served_in : (loan : ℕ) (held : Option (List ℕ)) (l' : Log) (said said' : Told) (status : ℕ)
      → connections < 2 ^ 64 → status ≡ 0 → In (plain_log loan held) l' said said' status → Left held l'.held
  served_in loan held l' said said' status small zero s =
      let well = closed_well path s.status s.closed status s.between said' (not_three status zero) s.is_closed in
      elim s.runs [
        | inl (done, runs, same) ↦
            let told = run_told most room leaves is_clean saves fails opens closes remaining contents turns connections
            _ _ refl refl refl small runs in
            record {
              encoder = s.encoder;
              keeper = s.keeper;
              after = s.after;
              keeper_after = s.keeper_after;
              endings = told.0;
              is_opened = s.is_opened;
              count = told.1;
              told = told.2;
              settled = s.settled done;
              clean = s.clean;
            }
        | inr (stop, three, runs, said_so) ↦ absurd (not_three s.status (well.1 ∙ zero) three)
      ]

  pub has_served : (loan : ℕ) (held : Option (List ℕ)) (l' : Log) (said said' : Told) (status : ℕ)
      → connections < 2 ^ 64 → status ≡ 0 → Serves (plain_log loan held) l' said said' status → Left held l'.held
  has_served loan held l' said said' status small zero (inl s) = served_in loan held l' said said' status small zero s
  has_served loan held l' said said' status small zero (inr (none, same, stays)) =
      absurd (not_three status zero none.2)

  says_in : (l l' : Log) (said said' : Told) → In l l' said said' 3 → SaysWhy path said said'
  says_in l l' said said' s = elim s.runs [
    | inl (done, runs, same) ↦ unclosed path s.status s.closed said s.between said' done same s.is_closed
    | inr (stop, three, runs, said_so) ↦
        inr (stop, s.between, said_so, says_more path s.status s.closed 3 s.between said' s.is_closed)
  ]

  pub says_why : (l l' : Log) (said said' : Told) (status : ℕ) → status ≡ 3
      → Serves l l' said said' status → SaysWhy path said said'
  says_why l l' said said' status three (inl s) =
      says_in l l' said said' (subst (In l l' said said') three s)
  says_why l l' said said' status three (inr (none, same, stays)) = inl (none.0, none.3)
