-- What a crash leaves of how a server begins.
use Rattle.std.proofs.Common.{◌≡◌, ◌⊎◌, ℕ, Bool, true, false, List}
use Rattle.uecp_link.specs.Server.{ServerState}
use Rattle.uecp_net.specs.Keeping.{KeptServer, kept_of, IsKept}
use Rattle.kept_jobs.specs.ServerRun.{Standing, anew, not_joined}

module _ {K : Type 0} (leaves : K → KeptServer → Type 0) (is_clean : K → Type 0)
    (saves fails : K → KeptServer → K → Type 0) where
  abbrev pub Was : Type 0
  Was = Standing ServerState K

  abbrev pub IsKeptOf : Was → Type 0
  IsKeptOf x = IsKept (leaves x.keeper) x.progress x.runs

  -- what a crash leaves of a server that begins
  abbrev pub LeftBegun : (due : Bool) → Was → KeptServer → Type 0
  LeftBegun due x left =
      (left ≡ kept_of x.progress x.runs)
      ⊎ ((due ≡ true) × (left ≡ kept_of (not_joined x.progress) (anew x.runs)))

  -- how it has begun
  abbrev pub HasBegun : (due : Bool) → (x y : Was) → Type 0
  HasBegun false x y = (y.runs ≡ x.runs) × (y.progress ≡ x.progress)
  HasBegun true x y = (y.runs ≡ anew x.runs) × (y.progress ≡ not_joined x.progress)
