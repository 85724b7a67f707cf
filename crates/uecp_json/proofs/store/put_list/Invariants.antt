use Rattle.std.proofs.Common.{map, drop}
use Rattle.serde_json.specs.Written.{compact_text}
use Rattle.json_lines.specs.Objects.{list_of}
use Rattle.json_lines.specs.Texts.{values_text}
use Rattle.uecp_json.specs.Stores.{text_object}
use Rattle.uecp_text.proofs.Public.{Leads}
use Rattle.uecp_json.proofs.store.put_list.Given as goal

-- what is left leads to the same
abbrev pub invariant-loop-text : goal.invariant-loop-text
invariant-loop-text l = Leads l.fn.output l.output (values_text l.later (map text_object (drop l.text-index l.texts)))
    (compact_text (list_of (map text_object l.texts)))
