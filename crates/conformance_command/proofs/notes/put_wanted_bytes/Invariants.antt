use Rattle.std.proofs.Common.{drop, flat_map}
use Rattle.uecp_text.proofs.Public.{Leads}
use Rattle.conformance_command.specs.Telling.{expected_bytes}
use Rattle.conformance_command.proofs.notes.put_wanted_bytes.Given as goal

-- what is left leads to the same
abbrev pub invariant-loop-reply : goal.invariant-loop-reply
invariant-loop-reply l = Leads l.fn.output l.output (flat_map (expected_bytes l.own) (drop l.reply-index l.replies))
    (flat_map (expected_bytes l.own) l.replies)
