use Rattle.std.proofs.Common.{◌-◌, drop, length, flat_map}
use Rattle.uecp_text.specs.Digits.{byte_word}
use Rattle.uecp_text.proofs.Public.{Leads}
use Rattle.state_jobs.proofs.state_lines.put_services.Given as goal

-- what is left leads to the same
abbrev pub invariant-loop-number : goal.invariant-loop-number
invariant-loop-number l =
    Leads l.fn.output l.output (flat_map byte_word (drop l.place l.store.services))
    (flat_map byte_word l.store.services)

abbrev pub decreases-loop-number : goal.decreases-loop-number
decreases-loop-number l = length l.store.services - l.place
