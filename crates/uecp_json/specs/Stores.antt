-- The lines of a store (profile).
use Rattle.std.specs.Prelude.{ℕ, List, [], ◌∷◌, ◌++◌, codes, map, flat_map}
use Rattle.std.specs.Option.{option_map_or}
use Rattle.std.specs.FinMap.{get}
use Rattle.serde_json.specs.Data.{Data, boolean}
use Rattle.uecp_frame.specs.Frame.{high_first}
use Rattle.rds_store.specs.declared.group.Group.{Group}
use Rattle.rds_store.specs.Value.{StoredText, ServiceData, Store}
use Rattle.rds_store.specs.Refusals.{set_numbers}
use Rattle.json_lines.specs.Objects.{Field, object_of, list_of, in_decimal, in_digits, said_fields, line_of}
use Rattle.uecp_json.specs.Elements.{place_fields}
use Rattle.uecp_json.specs.Steps.{group_fields}

-- How often a text is sent, and its characters (SPB 490, RadioText).
abbrev pub content_fields : (transmissions : ℕ) (bytes : List ℕ) → List Field
content_fields transmissions bytes =
    (codes "transmissions", in_decimal transmissions) ∷ said_fields (codes "bytes") bytes

-- The object of a text: its toggle, and its content (SPB 490, RadioText).
abbrev pub text_object : StoredText → Data
text_object t = object_of ((codes "toggle", boolean t.toggle) ∷ content_fields t.transmissions t.bytes)

-- The PI and the name of a service (SPB 490, PI and PS).
abbrev pub name_fields : ServiceData → List Field
name_fields s = (codes "pi", in_digits (high_first s.pi)) ∷ said_fields (codes "name") s.ps

-- The flags of a service and its programme type (SPB 490, TA/TP, MS and PTY).
abbrev pub flag_fields : ServiceData → List Field
flag_fields s = (codes "tp", boolean s.tp) ∷ (codes "ta", boolean s.ta) ∷ (codes "music", boolean s.music)
    ∷ (codes "type", in_decimal s.pty) ∷ []

-- The texts of a service, the oldest first (SPB 490, RadioText).
abbrev pub texts_fields : List StoredText → List Field
texts_fields texts = (codes "texts", list_of (map text_object texts)) ∷ []

-- What a service has (SPB 490, programme services).
abbrev pub value_fields : ServiceData → List Field
value_fields s = name_fields s ++ (flag_fields s ++ texts_fields s.texts)

-- The line of a service: where it stands, and what it has (profile).
abbrev pub service_line : (set number : ℕ) → ServiceData → List ℕ
service_line set number s = line_of (codes "service") (place_fields set number ++ value_fields s)

-- The line of the service of that number in a set, or nothing where the store has none there (profile).
unfoldable pub line_at : Store → (set number : ℕ) → List ℕ
line_at v set number = option_map_or (service_line set number) (get v.places (set, number)) []

-- The lines of the services of a set, in configured order (profile).
abbrev pub set_lines : Store → (set : ℕ) → List ℕ
set_lines v set = flat_map (line_at v set) v.services

-- The line of a group that waits (profile).
abbrev pub group_line : Group → List ℕ
group_line g = line_of (codes "queued") (group_fields g)

-- The first line of a store: its current set, and how many sets there are (profile).
abbrev pub first_line : Store → List ℕ
first_line v = line_of (codes "store") ((codes "current", in_decimal v.current) ∷ (codes "sets", in_decimal v.sets)
    ∷ [])

-- The lines of a store: that one, the services of each set, set 1 first, and the groups that wait, the first first
-- (profile).
abbrev pub store_lines : Store → List ℕ
store_lines v = first_line v ++ (flat_map (set_lines v) (set_numbers v.sets) ++ flat_map group_line v.groups)
