use Rattle.std.proofs.Common.{◌≡◌, ◌++◌, take, drop}
use Rattle.indexmap.specs.IndexMap.{spare}
use Rattle.rds_store.proofs.in_sets.copy_services.Given as goal

-- what is copied, and then what is left, in the same room
abbrev pub invariant-loop-place : goal.invariant-loop-place
invariant-loop-place l = record {
  entries : l.services.entries ≡ take l.place l.others.entries ++ drop l.place l.initial.services.entries;
  spare_is : spare l.services ≡ spare l.initial.services;
}
