use Rattle.std.proofs.Common.{◌≡◌, ◌+◌, ◌++◌, false, take, drop, IsTrue}
use Rattle.uecp_elements.specs.View.{element_of}
use Rattle.rds_store.specs.Names.{names_set}
use Rattle.rds_store.specs.Content.{taken}
use Rattle.rds_store.specs.Refusals.{adds_text}
use Rattle.rds_store.specs.Kept.{changed_sets, any_set_full}
use Rattle.rds_store.proofs.in_sets.change_each.Given as goal

-- what is done, and then the change of what is left
abbrev pub invariant-loop-service : goal.invariant-loop-service
invariant-loop-service l =
    let test = names_set l.named.dsn l.named.current in
    let change = taken (element_of l.element) in
    record {
      set : l.set ≡ l.service-index + 1;
      sets : take l.service-index l.sets ++ changed_sets l.set test change (drop l.service-index l.sets)
          ≡ changed_sets 1 test change l.initial.sets;
      room : IsTrue (adds_text (element_of l.element)) → any_set_full l.set test (drop l.service-index l.sets) ≡ false;
    }
