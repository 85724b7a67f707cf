use Rattle.std.proofs.Common.{◌≤◌}
use Rattle.std.specs.List.{AllByRecursion}
use Rattle.uecp_elements.specs.Reading.{items, IsItem}
use Rattle.rds_store.proofs.Judged.{Left}
use Rattle.rds_store.proofs.data_sets.DataSets.judged.Given as goal

-- what is left decides, and the number of groups that wait is known
abbrev pub invariant-loop-item : goal.invariant-loop-item
invariant-loop-item l = record {
  each : AllByRecursion IsItem l.item-iterator;
  few : l.waiting ≤ 32;
  left : Left l.self (items l.message) l.item-iterator l.waiting;
}
