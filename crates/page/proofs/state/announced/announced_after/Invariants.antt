-- Those so far, and those of the services that are left, are all.
use Rattle.std.proofs.Common.{◌≡◌, ◌++◌, drop, map}
use Rattle.std.specs.Prelude.{flat_map}
use Rattle.page.specs.Announced.{announcing}
use Rattle.page.specs.StateView.{seen_of}
use Rattle.page.proofs.state.announced.announced_after.Given as goal

abbrev pub invariant-loop-one : goal.invariant-loop-one
invariant-loop-one l =
    l.list.items ++ flat_map (announcing l.came l.before) (drop l.one-index (map seen_of l.behind))
    ≡ flat_map (announcing l.came l.before) (map seen_of l.behind)
