use Rattle.uecp_elements.specs.Reading.{items}
use Rattle.serde_json.specs.Written.{compact_text}
use Rattle.json_lines.specs.Objects.{list_of}
use Rattle.json_lines.specs.Texts.{values_text}
use Rattle.uecp_json.specs.Findings.{objects_in}
use Rattle.uecp_text.proofs.Public.{Leads}
use Rattle.uecp_json.proofs.findings.put_elements.Given as goal

-- what is left leads to the same
abbrev pub invariant-loop-read : goal.invariant-loop-read
invariant-loop-read l = Leads l.fn.output l.output (values_text l.later (objects_in l.read-iterator))
    (compact_text (list_of (objects_in (items l.message))))
