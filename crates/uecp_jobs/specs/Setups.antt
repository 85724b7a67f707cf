-- The encoder that the options describe (profile).
use Rattle.std.specs.Prelude.{◌≡◌, ℕ, ◌+◌, ◌*◌, ◌≤◌, ◌⊎◌, List, Some, None}
use Rattle.rds_store.specs.declared.fault.StoreFault.{StoreFault}
use Rattle.rds_store.specs.declared.fault.StoreFault.TheVariants as store
use Rattle.rds_store.specs.Opening.{fault_of, opening}
use Rattle.rds_store.specs.Value.{Store}
use Rattle.uecp_encoder.specs.State.{EncoderState}
use Rattle.uecp_encoder.specs.State as state
use Rattle.uecp_link.specs.Holds.{LineState, new_line}
use Rattle.uecp_jobs.specs.declared.setup.Setup.{Setup}
use Rattle.uecp_text.specs.declared.run_fault.RunFault.{RunFault}
use Rattle.uecp_text.specs.declared.run_fault.RunFault.TheVariants.{Services, Address, OutOfMemory}

-- A site and an encoder's number at it that are those of one encoder.
abbrev pub IsOneEncoder : (site encoder : ℕ) → Type 0
IsOneEncoder site encoder = (1 ≤ site) × (site ≤ 1023) × (1 ≤ encoder) × (encoder ≤ 63)

-- The address of that encoder.
abbrev pub address_of : (site encoder : ℕ) → ℕ
address_of site encoder = site * 64 + encoder

-- The options that describe an encoder: its site, its number there, how many data sets it has, and its services, the
-- main one first.
pub record Options : Type 0 where
  pub site : ℕ
  pub encoder : ℕ
  pub sets : ℕ
  pub services : List ℕ

-- The options in a setup.
abbrev pub options_of : Setup → Options
options_of s = record { site = s.site; encoder = s.encoder; sets = s.sets; services = s.services.now }

-- They do describe an encoder: the data sets and services are allowed, and the address is that of one encoder.
abbrev pub IsSetup : Options → Type 0
IsSetup o = (fault_of o.sets o.services ≡ None) × IsOneEncoder o.site o.encoder

-- That encoder at first.
abbrev pub encoder_at_first : Options → EncoderState Store
encoder_at_first o = state.opening (address_of o.site o.encoder) (opening o.sets o.services)

-- A new line to that encoder.
abbrev pub line_at_first : Options → LineState Store
line_at_first o = new_line (address_of o.site o.encoder) (opening o.sets o.services)

-- What a run says where no store was made: want of memory, else that the services were refused for that.
abbrev pub SaysStoreFault : StoreFault → RunFault → Type 0
SaysStoreFault store.OutOfMemory fault = fault ≡ OutOfMemory
SaysStoreFault refusal fault = fault ≡ Services refusal

-- The options describe no encoder, and this is said: the first fault of the services, else that the address is not that
-- of one encoder.
abbrev pub RefusesSetup : Options → RunFault → Type 0
RefusesSetup o fault =
    ((refusal : StoreFault) × (fault_of o.sets o.services ≡ Some refusal) × SaysStoreFault refusal fault)
    ⊎ ((fault ≡ Address) × (fault_of o.sets o.services ≡ None) × (IsOneEncoder o.site o.encoder → ⊥))

-- A site and a number are not those of one encoder, and this is said.
abbrev pub RefusesAddress : (site encoder : ℕ) → RunFault → Type 0
RefusesAddress site encoder fault = (fault ≡ Address) × (IsOneEncoder site encoder → ⊥)
