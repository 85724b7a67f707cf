use Rattle.std.specs.List.{AllByRecursion}
use Rattle.uecp_elements.specs.Reading.{IsItem}
use Rattle.uecp_text.proofs.Public.{Leads}
use Rattle.uecp_phrases.proofs.WritingLines.{left_of, whole_of}
use Rattle.uecp_phrases.proofs.message_line.put_message.Given as goal

-- what is left leads to the same
abbrev pub invariant-loop-other : goal.invariant-loop-other
invariant-loop-other l = record {
  each : AllByRecursion IsItem l.other-iterator;
  leads : Leads l.fn.output l.output (left_of l.region l.message l.other-iterator) (whole_of l.region l.message);
}
