-- What the elements tell that are left, behind those that were told, is what all tell.
use Rattle.std.proofs.Common.{◌≡◌, drop}
use Rattle.serde_json.specs.View.{items_view}
use Rattle.page.specs.Air.{after_items}
use Rattle.page.specs.StateView.{air_of}
use Rattle.page.proofs.state.air.Air.apply.Given as goal

abbrev pub invariant-loop-element : goal.invariant-loop-element
invariant-loop-element l =
    after_items (items_view (drop l.element-index l.element-items)) (air_of l.self)
    ≡ after_items (items_view l.element-items) (air_of l.fn.self)
