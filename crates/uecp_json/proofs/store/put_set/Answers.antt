use Rattle.std.proofs.Common.{flat_map, drop, ap, sym, ◌∙◌}
use Rattle.uecp_json.specs.Stores.{line_at, set_lines}
use Rattle.uecp_text.proofs.Public.{leads_end}
use Rattle.uecp_json.proofs.Places.{none_left}
use Rattle.uecp_json.proofs.store.put_set.Goals as goal

pub returns : goal.returns
returns c =
    let services = c.args.store.now.services in
    let lines = line_at c.args.store.now c.args.set in
    leads_end c.args.output.now c.loop-number.output (flat_map lines (drop c.loop-number.place services))
    (set_lines c.args.store.now c.args.set) c.loop-number.invariant
    (ap (flat_map lines) (none_left services c.loop-number.place
    (sym c.service_number.ensures.value ∙ c.in_default.is)))
