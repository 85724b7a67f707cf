use Rattle.std.proofs.Common.{flat_map, drop, ap, sym, ◌∙◌}
use Rattle.uecp_text.specs.Digits.{byte_word}
use Rattle.uecp_text.proofs.Public.{leads_end}
use Rattle.state_jobs.proofs.Walks.{none_left}
use Rattle.state_jobs.proofs.state_lines.put_services.Goals as goal

pub returns : goal.returns
returns c =
    let services = c.args.store.now.services in
    leads_end c.args.output.now c.loop-number.output (flat_map byte_word (drop c.loop-number.place services))
    (flat_map byte_word services) c.loop-number.invariant
    (ap (flat_map byte_word) (none_left services c.loop-number.place
    (sym c.service_number.ensures.value ∙ c.in_default.is)))
