-- Parts of an object's text, which are written one after another (RFC 8259, with no space).
use Rattle.std.specs.Prelude.{ℕ, nat_le, ◌==◌, ◌&&◌, not, Bool, List, [], ◌∷◌, ◌++◌, codes}
use Rattle.std.specs.List.{list_all}
use Rattle.json.specs.Print.{quoted}
use Rattle.serde_json.specs.Data.{Data, string}
use Rattle.serde_json.specs.Written.{compact_text, items_text}
use Rattle.json_lines.specs.Objects.{Field, in_decimal, items_of}

-- A byte that stands in a string as it is: no control, no quote and no backslash (RFC 8259, strings).
abbrev pub is_plain_byte : ℕ → Bool
is_plain_byte byte = nat_le 0x20 byte && not (byte == 0x22) && not (byte == 0x5C)

-- A text of such bytes.
abbrev pub is_plain : List ℕ → Bool
is_plain text = list_all is_plain_byte text

-- The first member of an object, behind its brace.
unfoldable pub first_text : (name : List ℕ) → Data → List ℕ
first_text name value = codes "{" ++ (quoted name ++ (codes ":" ++ compact_text value))

-- A further member, behind a comma.
unfoldable pub field_text : (name : List ℕ) → Data → List ℕ
field_text name value = codes "," ++ (quoted name ++ (codes ":" ++ compact_text value))

-- Further members.
abbrev pub fields_text : List Field → List ℕ
fields_text [] = []
fields_text ((name, value) ∷ fields) = field_text name value ++ fields_text fields

-- How a line begins, up to its kind.
unfoldable pub opening_text : (kind : List ℕ) → List ℕ
opening_text kind = first_text (codes "format") (in_decimal 1) ++ field_text (codes "kind") (string kind)

-- What is left of a list's text, by whether a value stands before.
unfoldable pub values_text : (later : Bool) → List Data → List ℕ
values_text later values = items_text later (items_of values)
