use Rattle.std.proofs.Common.{◌≡◌, ◌++◌, take, drop}
use Rattle.rds_store.proofs.in_sets.copy_sets.Given as goal

-- what is copied, and then what is left to copy
abbrev pub invariant-loop-service : goal.invariant-loop-service
invariant-loop-service l = record {
  place : l.place ≡ l.service-index;
  sets : take l.service-index l.sets ++ drop l.service-index l.others ≡ l.others;
}
