use Rattle.std.proofs.Common.{◌≡◌, map, take, replicate}
use Rattle.rds_store.specs.Content.{opening_service}
use Rattle.rds_store.proofs.opening_store.opening_services.Given as goal

abbrev pub invariant-loop-number : goal.invariant-loop-number
invariant-loop-number l = l.opened.entries ≡ map (λ n. (n, replicate l.sets opening_service))
    (take l.number-index l.services)
