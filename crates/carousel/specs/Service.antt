-- The service that is on the air.
use Rattle.std.specs.Prelude.{Bool, not, ◌==◌, slice_get, unwrap_or}
use Rattle.std.specs.Option.{option_and_then}
use Rattle.std.specs.FinMap.{get}
use Rattle.rds_store.specs.Value.{Store, ServiceData}
use Rattle.rds_store.specs.Content.{opening_service}

-- The first service listed, as the current data set has it: that is on the air. A store always has one; without one it
-- would be a new service. (SPB 490, data sets and programme services)
abbrev pub main_service : Store → ServiceData
main_service v =
    unwrap_or (option_and_then (λ number. get v.places (v.current, number)) (slice_get v.services 0)) opening_service

-- Whether a service was told a PI: it is another than 0000, which each store has at first. (profile)
abbrev pub is_told : ServiceData → Bool
is_told s = not (s.pi == 0)
