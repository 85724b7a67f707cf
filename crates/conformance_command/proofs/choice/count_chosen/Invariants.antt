use Rattle.std.proofs.Common.{◌≡◌, ◌≤◌, length, take}
use Rattle.std.specs.Prelude.{filter}
use Rattle.std.specs.Option.{option_map}
use Rattle.conformance_command.specs.Choosing.{is_chosen}
use Rattle.conformance_command.proofs.choice.count_chosen.Given as goal

-- those so far are counted
abbrev pub invariant-loop-case : goal.invariant-loop-case
invariant-loop-case l = record {
  counted : l.count ≡ length (filter (is_chosen (option_map (λ name. name.now) l.only)) (take l.case-index l.cases));
  few : l.count ≤ l.case-index;
}
