use Rattle.std.proofs.Common.{◌≡◌, ◌+◌, drop}
use Rattle.rds_store.specs.Names.{names_set}
use Rattle.rds_store.specs.Kept.{any_set_full}
use Rattle.rds_store.proofs.in_sets.is_any_full.Given as goal

-- what is left decides
abbrev pub invariant-loop-service : goal.invariant-loop-service
invariant-loop-service l =
    let test = names_set l.named.dsn l.named.current in
    record {
      set : l.set ≡ l.service-index + 1;
      left : any_set_full l.set test (drop l.service-index l.sets) ≡ any_set_full 1 test l.sets;
    }
