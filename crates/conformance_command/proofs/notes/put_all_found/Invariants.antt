use Rattle.std.proofs.Common.{flat_map, length}
use Rattle.uecp_frame.specs.Findings.{found}
use Rattle.uecp_frame.specs.Beyond.{found_beyond}
use Rattle.uecp_text.proofs.Public.{Leads}
use Rattle.conformance_command.specs.Telling.{found_note}
use Rattle.conformance_command.proofs.notes.put_all_found.Given as goal

-- what is left leads to the same
abbrev pub invariant-loop-rest : goal.invariant-loop-rest
invariant-loop-rest l = Leads l.fn.output l.output (flat_map found_note (found_beyond l.deframer l.rest))
    (flat_map found_note (found l.bytes))

abbrev pub decreases-loop-rest : goal.decreases-loop-rest
decreases-loop-rest l = length l.rest
