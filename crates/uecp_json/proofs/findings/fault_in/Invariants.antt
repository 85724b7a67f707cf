use Rattle.std.proofs.Common.{◌≡◌}
use Rattle.uecp_elements.specs.Reading.{items}
use Rattle.uecp_json.specs.Findings.{fault_in}
use Rattle.uecp_json.proofs.findings.fault_in.Given as goal

-- the fault is among what is left
abbrev pub invariant-loop-read : goal.invariant-loop-read
invariant-loop-read l = fault_in l.read-iterator ≡ fault_in (items l.message)
