-- A run of the built-in cases over TCP (profile).
use Rattle.std.specs.Prelude.{◌≡◌, ℕ, List, Option, None}
use Rattle.std.specs.String.{string_bytes}
use Rattle.conformance.specs.declared.case.Case.{Case}
use Rattle.conformance.specs.declared.built_in.TheConstants.{CASES}
use Rattle.conformance.specs.Cases.{Spells}
use Rattle.commands.specs.declared.conformance_options.ConformanceOptions.{ConformanceOptions}
use Rattle.conformance_command.specs.declared.went.Went.{Went}
use Rattle.conformance_command.specs.Choosing.{chosen, tally_of, status_of}
use Rattle.conformance_command.specs.Conformance.{way_of, only_of, RunsAll}
use Rattle.conformance_command.specs.Dialling.{DialsQuietly}
use Rattle.conformance_command.specs.Place.{IsPlace}

-- What is dialled for a job: a host and a port that its text says, with its limits of time; none was dialled yet.
abbrev pub asked_of : ConformanceOptions → (host : List ℕ) → (port : ℕ) → DialsQuietly
asked_of job host port = record {
  dials = record { host = host; port = port; timeout = job.timeout; failed = None };
  quiet = job.quiet;
}

-- The chosen ones of the built-in cases were run over connections to the host and the port that the job's text says,
-- and told; and the status is what they come to.
pub record RunsBuiltIn {I O : Type 0} (opens : DialsQuietly → Option (I × O) → DialsQuietly → Type 0)
    (closes : DialsQuietly → I → O → DialsQuietly → Type 0) (remaining : I → Option (List ℕ))
    (contents : O → Option (List ℕ)) (job : ConformanceOptions) (held held' : Option (List ℕ)) (status : ℕ) : Type 0
  where
    pub cases : List Case
    pub built_in : Spells CASES.now cases
    pub host : List ℕ
    pub port : ℕ
    pub place : IsPlace (string_bytes job.place) host port
    pub wents : List Went
    pub left : DialsQuietly
    pub runs : RunsAll opens closes remaining contents (way_of job)
        (chosen (only_of job) cases) wents (record { connect = asked_of job host port; held = held })
        (record { connect = left; held = held' })
    pub comes_to : status ≡ status_of (tally_of (chosen (only_of job) cases) wents)
