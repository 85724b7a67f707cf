-- The lines of the events of a line, and its totals (profile).
use Rattle.std.specs.Prelude.{ℕ, List, [], ◌∷◌, codes, Result, Ok, Err, Option, Some, None}
use Rattle.serde_json.specs.Data.{Data, null, boolean, string}
use Rattle.uecp_elements.specs.declared.code.Code.{Code}
use Rattle.uecp_elements.specs.Codes.{byte_of}
use Rattle.uecp_link.specs.declared.stepped.Stepped.{Stepped}
use Rattle.uecp_link.specs.declared.stepped.Stepped.TheVariants.{Numbered, Delivered, NotNext, Acknowledged, Stray}
use Rattle.uecp_link.specs.declared.stepped.Stepped.TheVariants.{Noise, Lost, Restarted, Taken}
use Rattle.uecp_link.specs.declared.refusal.LineRefusal.{LineRefusal}
use Rattle.uecp_link.specs.Refusal.{number_of, name_of}
use Rattle.rds_store.specs.declared.group.Group.{Group}
use Rattle.json_lines.specs.Objects.{Field, object_of, in_decimal, in_digits, line_of}
use Rattle.uecp_json.specs.Elements.{block_fields}
use Rattle.uecp_json.specs.Meanings.{meaning_of}

-- A reply's code and what it means (profile).
abbrev pub code_fields : Code → List Field
code_fields code = (codes "code", in_digits (byte_of code ∷ [])) ∷ (codes "meaning", string (meaning_of code)) ∷ []

-- A group behind its type: the last five bits of block 2, and blocks 3 and 4 (SPB 490, free-format group).
abbrev pub bits_fields : Group → List Field
bits_fields g = (codes "bits", in_digits (g.bits ∷ [])) ∷ block_fields g.block3 g.block4

-- A group: its type and the rest of it (SPB 490, free-format group).
abbrev pub group_fields : Group → List Field
group_fields g = (codes "type", in_digits (g.kind ∷ [])) ∷ bits_fields g

-- The group that a take gave, or null where there was none (profile).
abbrev pub taken_group : Option Group → Data
taken_group None = null
taken_group (Some group) = object_of (group_fields group)

-- The line of a step, where the event named the message `named`; a refusal by its number and name (profile).
abbrev pub step_line : Result Stepped LineRefusal → (named : ℕ) → List ℕ
step_line (Ok (Numbered number)) named = line_of (codes "numbered") ((codes "message", in_decimal number) ∷ [])
step_line (Ok (Delivered fresh code)) named = line_of (codes "delivered")
    ((codes "message", in_decimal named) ∷ (codes "fresh", boolean fresh) ∷ code_fields code)
step_line (Ok NotNext) named = line_of (codes "not_next") ((codes "message", in_decimal named) ∷ [])
step_line (Ok (Acknowledged code)) named = line_of (codes "acknowledged") (code_fields code)
step_line (Ok Stray) named = line_of (codes "stray") []
step_line (Ok (Noise dropped)) named = line_of (codes "noise") ((codes "dropped", in_decimal dropped) ∷ [])
step_line (Ok Lost) named = line_of (codes "lost") []
step_line (Ok Restarted) named = line_of (codes "restarted") []
step_line (Ok (Taken group)) named = line_of (codes "taken") ((codes "group", taken_group group) ∷ [])
step_line (Err refusal) named = line_of (codes "refused")
    ((codes "number", in_decimal (number_of refusal)) ∷ (codes "name", string (name_of refusal)) ∷ [])

-- The line of a server that was started again: how many messages were given up (profile).
abbrev pub given_up_line : ℕ → List ℕ
given_up_line given_up = line_of (codes "given_up") ((codes "count", in_decimal given_up) ∷ [])

-- How many messages were sent and applied, and below which number all are acknowledged (profile).
abbrev pub total_fields : (sent applied acknowledged : ℕ) → List Field
total_fields sent applied acknowledged = (codes "sent", in_decimal sent) ∷ (codes "applied", in_decimal applied)
    ∷ (codes "acknowledged", in_decimal acknowledged) ∷ []

-- The last line: these totals (profile).
abbrev pub totals_line : (sent applied acknowledged : ℕ) → List ℕ
totals_line sent applied acknowledged = line_of (codes "totals") (total_fields sent applied acknowledged)
