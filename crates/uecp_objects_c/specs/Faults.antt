-- Why an end is not made (profile).
use Rattle.std.specs.Prelude.{ℕ, ◌+◌, ◌*◌, ◌&&◌, nat_lt, if◌then◌else◌, List, Option, Some, None}
use Rattle.std.specs.Option.{option_map}
use Rattle.rds_store.specs.Fault.{number_of}
use Rattle.rds_store.specs.Opening.{fault_of}
use Rattle.c_values.specs.Statuses.{no_address}

-- The address of an encoder by its parts; none where the site is not 1 to 1023 or the encoder not 1 to 63 (SPB 490,
-- addressing).
abbrev pub own_address : (site encoder : ℕ) → Option ℕ
own_address site encoder =
    if (nat_lt 0 site && nat_lt site 1024) && (nat_lt 0 encoder && nat_lt encoder 64) then Some (site * 64 + encoder)
    else None

-- Why there is no end for an address: it is not one encoder's own (profile).
abbrev pub address_fault : Option ℕ → Option ℕ
address_fault None = Some no_address
address_fault (Some address) = None

-- Why there is no encoder: its address is no encoder's own, or else the first fault of its store (profile).
abbrev pub encoder_fault : Option ℕ → (sets : ℕ) → (services : List ℕ) → Option ℕ
encoder_fault None sets services = Some no_address
encoder_fault (Some address) sets services = option_map (λ fault. 5 + number_of fault) (fault_of sets services)
