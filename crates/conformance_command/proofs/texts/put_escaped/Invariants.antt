use Rattle.std.proofs.Common.{drop, map}
use Rattle.json.specs.Print.{escape}
use Rattle.uecp_text.proofs.Public.{Leads}
use Rattle.conformance_command.specs.Telling.{shown_byte}
use Rattle.conformance_command.proofs.texts.put_escaped.Given as goal

-- what is left leads to the same
abbrev pub invariant-loop-byte : goal.invariant-loop-byte
invariant-loop-byte l = Leads l.fn.output l.output (escape (map shown_byte (drop l.byte-index l.text)))
    (escape (map shown_byte l.text))
