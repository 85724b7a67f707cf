-- The objects so far are those of the services so far.
use Rattle.std.proofs.Common.{◌≡◌, take, map}
use Rattle.serde_json.specs.View.{view}
use Rattle.page.specs.Texts.{service_data}
use Rattle.page.specs.StateView.{service_of}
use Rattle.page.proofs.state.texts.services_value.Given as goal

abbrev pub invariant-loop-row : goal.invariant-loop-row
invariant-loop-row l =
    map view l.list.items ≡ map (λ r. service_data l.now l.announced (service_of r)) (take l.row-index l.rows)
