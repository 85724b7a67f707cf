-- A run of the cases that were read is one of the built-in cases, where these were read.
use Rattle.std.proofs.Common.{◌≡◌, ◌≤◌, ℕ, zero, suc, List, Option, inl, inr, refl, subst, arith}
use Rattle.std.specs.Prelude.{◌⊎◌}
use Rattle.std.specs.String.{string_bytes}
use Rattle.conformance.specs.declared.case.Case.{Case}
use Rattle.conformance.specs.declared.built_in.TheConstants.{CASES}
use Rattle.conformance.specs.Cases.{Spells}
use Rattle.commands.specs.declared.conformance_options.ConformanceOptions.{ConformanceOptions}
use Rattle.conformance_command.specs.declared.went.Went.{Went}
use Rattle.conformance_command.specs.Choosing.{chosen, tally_of, status_of}
use Rattle.conformance_command.specs.Conformance.{way_of, only_of, RunsAll}
use Rattle.conformance_command.specs.Dialling.{DialsQuietly}
use Rattle.conformance_command.specs.OverTcp.{asked_of, RunsBuiltIn}
use Rattle.conformance_command.specs.Place.{IsPlace}

pub at_most_one : (n : ℕ) → n ≤ 1 → (n ≡ 0) ⊎ (n ≡ 1)
at_most_one zero low = inl refl
at_most_one (suc zero) low = inr refl
at_most_one (suc (suc n)) low = absurd (omega (arith, low))

module _ {I O : Type 0} (opens : DialsQuietly → Option (I × O) → DialsQuietly → Type 0)
    (closes : DialsQuietly → I → O → DialsQuietly → Type 0) (remaining : I → Option (List ℕ))
    (contents : O → Option (List ℕ)) (job : ConformanceOptions) (held held' : Option (List ℕ)) (status : ℕ) where
  pub built_in : (cases read : List Case) (host : List ℕ) (port : ℕ) (dialled left : DialsQuietly) (wents : List Went)
      → Spells CASES.now cases → IsPlace (string_bytes job.place) host port → dialled ≡ asked_of job host port
      → read ≡ cases
      → RunsAll opens closes remaining contents (way_of job)
      (chosen (only_of job) read) wents (record { connect = dialled; held = held })
      (record { connect = left; held = held' })
      → status ≡ status_of (tally_of (chosen (only_of job) read) wents)
      → RunsBuiltIn opens closes remaining contents job held held' status
  built_in cases read host port dialled left wents spelled place asked same runs comes = record {
    cases = cases;
    built_in = spelled;
    host = host;
    port = port;
    place = place;
    wents = wents;
    left = left;
    runs = subst (λ d. RunsAll opens closes remaining contents (way_of job)
        (chosen (only_of job) cases) wents (record { connect = d; held = held })
        (record { connect = left; held = held' })) asked
        (subst (λ them. RunsAll opens closes remaining contents (way_of job)
        (chosen (only_of job) them) wents (record { connect = dialled; held = held })
        (record { connect = left; held = held' })) same runs);
    comes_to = subst (λ them. status ≡ status_of (tally_of (chosen (only_of job) them) wents)) same comes;
  }
