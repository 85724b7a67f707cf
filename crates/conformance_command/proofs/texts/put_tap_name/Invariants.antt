use Rattle.std.proofs.Common.{drop, map}
use Rattle.uecp_text.proofs.Public.{Leads}
use Rattle.conformance_command.specs.Telling.{shown_byte, tap_name}
use Rattle.conformance_command.proofs.texts.put_tap_name.Given as goal

-- what is left leads to the same
abbrev pub invariant-loop-byte : goal.invariant-loop-byte
invariant-loop-byte l = Leads l.fn.output l.output (tap_name (map shown_byte (drop l.byte-index l.name)))
    (tap_name (map shown_byte l.name))
