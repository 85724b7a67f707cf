use Rattle.std.proofs.Common.{◌≡◌, replicate, vec_capacity, vec_len}
use Rattle.rds_store.specs.Content.{opening_service}
use Rattle.rds_store.proofs.in_sets.ServiceInSets.new.Given as goal

abbrev pub invariant-loop : goal.invariant-loop
invariant-loop l = record {
  services : l.in_sets.items ≡ replicate l.counter opening_service;
  count : vec_len l.in_sets ≡ l.counter;
  room : vec_capacity l.in_sets ≡ l.sets;
}
