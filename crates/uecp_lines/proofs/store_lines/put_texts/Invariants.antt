use Rattle.std.proofs.Common.{flat_map, drop}
use Rattle.uecp_lines.specs.StoreLines.{text_line, texts_lines}
use Rattle.uecp_text.proofs.Public.{Leads}
use Rattle.uecp_lines.proofs.store_lines.put_texts.Given as goal

-- what is left leads to the same
abbrev pub invariant-loop-text : goal.invariant-loop-text
invariant-loop-text l = Leads l.fn.output l.output (flat_map text_line (drop l.text-index l.texts))
    (texts_lines l.texts)
