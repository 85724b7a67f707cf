use Rattle.std.proofs.Common.{◌-◌, drop, length, flat_map}
use Rattle.uecp_text.proofs.Public.{Leads}
use Rattle.state_jobs.specs.StateLines.{held_line}
use Rattle.state_jobs.proofs.state_lines.put_held.Given as goal

-- what is left leads to the same
abbrev pub invariant-loop-held : goal.invariant-loop-held
invariant-loop-held l =
    Leads l.fn.output l.output (flat_map held_line (drop l.place l.server.held)) (flat_map held_line l.server.held)

abbrev pub decreases-loop-held : goal.decreases-loop-held
decreases-loop-held l = length l.server.held - l.place
