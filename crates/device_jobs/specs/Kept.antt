-- What comes of an encoder with its state in a file that is no device, whatever its connections are (profile).
use Rattle.std.specs.Prelude.{◌≡◌, ℕ, false, List, length, Option, None}
use Rattle.std.specs.Io.KnownBytes.{Appends}
use Rattle.rds_store.specs.Value.{Store}
use Rattle.uecp_encoder.specs.State.{EncoderState}
use Rattle.uecp_encoder.specs.Keeping.{Kept, Settled}
use Rattle.uecp_encoder.specs.ServingWith.{Ended}
use Rattle.uecp_jobs.specs.Setups.{address_of}
use Rattle.output_forms.specs.declared.form.Form.TheVariants.{Lines}
use Rattle.state_jobs.specs.Opened.{IsOpened}
use Rattle.device_serving.specs.Logging.{Log}
use Rattle.device_serving.specs.ConnectionLines.{endings_lines}
use Rattle.commands.specs.declared.encoder_options.EncoderOptions.{EncoderOptions}

-- A log that tells how connections ended, as lines, and nothing else; so far none was opened.
abbrev pub plain_log : (loan : ℕ) → (held : Option (List ℕ)) → Log
plain_log loan held = record {
  form = Lines;
  timed = false;
  told = false;
  number = 0;
  loan = loan;
  held = held;
  fault = None;
}

-- The encoder in the state at the path, which is the one that is asked for, served so many connections, each has its
-- line, and whatever a crash leaves then is the encoder as the last one left it.
pub record ServedKept {K : Type 0} (gives : (path : List ℕ) → EncoderState Store → K → Type 0)
    (leaves : K → Kept Store → Type 0) (is_clean : K → Type 0) (path : List ℕ) (address sets : ℕ)
    (services : List ℕ) (connections : ℕ) (held held' : Option (List ℕ)) : Type 0 where
  pub encoder : EncoderState Store
  pub keeper : K
  pub after : EncoderState Store
  pub keeper_after : K
  pub endings : List Ended
  pub is_opened : IsOpened (gives path) leaves is_clean address sets services encoder keeper
  pub count : length endings ≡ connections
  pub told : Appends held held' (endings_lines Lines 1 endings)
  pub settled : is_clean keeper_after → Settled (leaves keeper_after) after
  pub clean : is_clean keeper_after → is_clean keeper

-- Its connections were served so, with these options of the encoder.
abbrev pub HasServedKept : {K : Type 0} → (gives : (path : List ℕ) → EncoderState Store → K → Type 0)
    → (leaves : K → Kept Store → Type 0) → (is_clean : K → Type 0) → (path : List ℕ)
    → EncoderOptions → (held held' : Option (List ℕ)) → Type 0
HasServedKept gives leaves is_clean path o held held' =
    ServedKept gives leaves is_clean path (address_of o.site o.encoder) o.sets o.services.items o.connections held held'
