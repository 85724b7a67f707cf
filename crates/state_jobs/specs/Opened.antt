-- What the state of an encoder is that was opened (profile).
use Rattle.std.specs.Prelude.{ℕ, List}
use Rattle.rds_store.specs.Value.{Store}
use Rattle.uecp_encoder.specs.State.{EncoderState}
use Rattle.uecp_encoder.specs.Keeping.{Kept, Settled}
use Rattle.state_files.specs.Encoders.{IsDescribed}

-- An encoder came from a state that was opened so: it is the one that is asked for, and a crash would leave of it what
-- is to be kept.
pub record IsOpened {K : Type 0} (gives : EncoderState Store → K → Type 0) (leaves : K → Kept Store → Type 0)
    (is_clean : K → Type 0) (address sets : ℕ) (services : List ℕ) (e : EncoderState Store) (k : K) : Type 0 where
  pub given : gives e k
  pub described : IsDescribed address sets services e
  pub settled : is_clean k → Settled (leaves k) e
