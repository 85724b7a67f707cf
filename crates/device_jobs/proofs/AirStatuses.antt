-- Which exit statuses there are.
use Rattle.std.proofs.Common.{◌≤◌, ℕ, List, Result, Ok, Err, inl, inr, arith}
use Rattle.uecp_text.specs.declared.run_fault.RunFault.{RunFault}
use Rattle.uecp_text.specs.declared.run_fault.RunFault.TheVariants as run
use Rattle.uecp_text.specs.Faults.{status_of}
use Rattle.uecp_jobs.specs.Setups.{Options}
use Rattle.state_files.specs.declared.fault.StateFault.{StateFault}
use Rattle.state_jobs.specs.Texts.{IsClosed}
use Rattle.device_jobs.specs.Limits.{options_of}
use Rattle.device_jobs.specs.Serving.{IsNoEncoder}
use Rattle.commands.specs.declared.encoder_options.EncoderOptions.{EncoderOptions}
use Rattle.device_jobs.specs.AirOverTcp.{HasNotAired}
use Rattle.notices.specs.Told.{Told}

-- the status of a run that stopped
pub few_of : (fault : RunFault) → status_of fault ≤ 3
few_of (run.Text number refusal) = omega arith
few_of (run.Services refusal) = omega arith
few_of run.NotAList = omega arith
few_of run.Address = omega arith
few_of run.TooLong = omega arith
few_of run.Reading = omega arith
few_of run.Writing = omega arith
few_of run.OutOfMemory = omega arith
few_of run.Listening = omega arith
few_of run.Connection = omega arith
few_of run.Outstanding = omega arith

no_encoder : (o : Options) (said said' : Told) (status : ℕ) → IsNoEncoder o said said' status → status ≤ 3
no_encoder o said said' status is = omega (arith, is.2, few_of is.0)

-- where nothing was begun
pub not_aired : (job : EncoderOptions) (said said' : Told) (status : ℕ) → HasNotAired job said said' status
    → status ≤ 3
not_aired job said said' status not_begun = elim not_begun [
  | inl no_air ↦ omega (arith, no_air.1)
  | inr more ↦ elim more [
    | inl faults ↦ omega (arith, faults.1)
    | inr others ↦ elim others [
      | inl no_place ↦ no_place.3
      | inr rest ↦ elim rest [
        | inl none ↦ no_encoder (options_of job) said said' status none
        | inr nobody ↦ nobody.2
      ]
    ]
  ]
]

-- where a state was closed behind a run
pub closed : (path : List ℕ) (status : ℕ) (ended : Result (Unit {0}) StateFault) (status' : ℕ)
    (said said' : Told) → status ≤ 3 → IsClosed path status ended status' said said' → status' ≤ 3
closed path status (Ok done) status' said said' few is = omega (arith, few, is.0)
closed path status (Err fault) status' said said' few is = omega (arith, is.0)
