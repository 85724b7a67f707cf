-- How a server begins whose lines come as they like, and what is told of that in each form (profile).
use Rattle.std.specs.Prelude.{◌≡◌, ◌⊎◌, Bool, true, false, Ok, Err, length}
use Rattle.uecp_link.specs.Server.{ServerState, waiting}
use Rattle.uecp_net.specs.Keeping.{KeptServer, kept_of, IsKept}
use Rattle.kept_jobs.specs.declared.stop.KeptStop.TheVariants.{StateFailed}
use Rattle.kept_jobs.specs.Stops.{Went, TellsKept}
use Rattle.kept_jobs.specs.ServerRun.{Standing, anew, not_joined}
use Rattle.output_forms.specs.declared.form.Form.{Form}
use Rattle.sending.specs.Forms.{taken_in, given_up_in}

-- The writer got the line of how far the server has come.
abbrev pub TellsTaken : {K : Type 0} → Form → (x x' : Standing ServerState K) → Went → Type 0
TellsTaken form x x' went =
    (x' ≡ record x { held = x'.held })
    × TellsKept (taken_in form x.progress.taken (length (waiting x.runs))) (Ok tt) x.held x'.held went

module _ {K : Type 0} (leaves : K → KeptServer → Type 0) (is_clean : K → Type 0)
    (saves fails : K → KeptServer → K → Type 0) (form : Form) where
  -- A new server is saved, not joined, which holds nothing; and then the writer gets the line of how many messages are
  -- given up by that. Or the save fails, and nothing is told.
  pub record BeginsAnew (x x' : Standing ServerState K) (went : Went) : Type 0 where
    pub new : x'.runs ≡ anew x.runs
    pub progress : x'.progress ≡ not_joined x.progress
    pub saved : (saves x.keeper (kept_of x'.progress x'.runs) x'.keeper
        × TellsKept (given_up_in form (length (waiting x.runs))) (Ok tt) x.held x'.held went)
        ⊎ (fails x.keeper (kept_of x'.progress x'.runs) x'.keeper × (x'.held ≡ x.held) × (went ≡ Err StateFailed))
    pub outlives : is_clean x'.keeper → (left : KeptServer) → leaves x'.keeper left
        → leaves x.keeper left ⊎ (left ≡ kept_of x'.progress x'.runs)
    pub settled : is_clean x'.keeper → IsKept (leaves x'.keeper) x'.progress x'.runs ⊎ (went ≡ Err StateFailed)
    pub clean : is_clean x'.keeper → is_clean x.keeper

  -- It does so where the encoder is to be joined, and else nothing.
  abbrev pub BeginsAnewIf : (due : Bool) → (x x' : Standing ServerState K) → Went → Type 0
  BeginsAnewIf false x x' went = (x' ≡ x) × (went ≡ Ok tt)
  BeginsAnewIf true x x' went = BeginsAnew x x' went
