use Rattle.std.proofs.Common.{◌≡◌}
use Rattle.std.specs.List.{AllByRecursion}
use Rattle.uecp_elements.specs.Reading.{items, IsItem}
use Rattle.uecp_elements.specs.Folding.{folded}
use Rattle.rds_store.specs.Put.{put}
use Rattle.rds_store.proofs.data_sets.DataSets.put_each.Given as goal

-- what is left leads to the same
abbrev pub invariant-loop-item : goal.invariant-loop-item
invariant-loop-item l = record {
  each : AllByRecursion IsItem l.item-iterator;
  left : folded put l.self l.item-iterator ≡ folded put l.fn.self (items l.message);
}
