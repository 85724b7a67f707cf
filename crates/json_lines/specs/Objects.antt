-- What the lines hold: objects of JSON, one a line (profile). The text of a value is that of RFC 8259 with no space.
use Rattle.std.specs.Prelude.{ℕ, List, [], ◌∷◌, ◌++◌, codes, flat_map, encode_utf8_all}
use Rattle.hex.specs.Hex.{encode_upper}
use Rattle.rds_text.specs.Quoted.{written}
use Rattle.serde_json.specs.Data.{Data, number, unsigned, string, array, object, Items, no_items, item}
use Rattle.serde_json.specs.Data.{Members, no_members, member}
use Rattle.serde_json.specs.Written.{compact_text}

-- A member of an object: its name and its value (RFC 8259, objects).
abbrev pub Field : Type 0
Field = List ℕ × Data

-- Members in this order (RFC 8259, objects).
abbrev pub members_of : List Field → Members
members_of [] = no_members
members_of ((name, value) ∷ fields) = member name value (members_of fields)

-- The object with these members (RFC 8259, objects).
unfoldable pub object_of : List Field → Data
object_of fields = object (members_of fields)

-- The values of a list in this order (RFC 8259, arrays).
abbrev pub items_of : List Data → Items
items_of [] = no_items
items_of (value ∷ values) = item value (items_of values)

-- The list of these values (RFC 8259, arrays).
unfoldable pub list_of : List Data → Data
list_of values = array (items_of values)

-- A count, an address's part or the number of a set or service is a number (profile).
abbrev pub in_decimal : ℕ → Data
in_decimal n = number (unsigned n)

-- Bytes are a string of two upper-case hexadecimal digits for each (profile).
abbrev pub in_digits : List ℕ → Data
in_digits bytes = string (encode_upper bytes)

-- What the bytes of a name or text say is a string of their characters, as they are written between quotes (profile).
abbrev pub in_characters : List ℕ → Data
in_characters bytes = string (encode_utf8_all (flat_map written bytes))

-- Bytes of a name or of a text, and what they say (profile).
abbrev pub said_fields : (name bytes : List ℕ) → List Field
said_fields name bytes = (name, in_digits bytes) ∷ (codes "text", in_characters bytes) ∷ []

-- The line of an object: its version of the format, its kind, and these members (profile).
unfoldable pub line_of : (kind : List ℕ) → List Field → List ℕ
line_of kind fields =
    compact_text (object_of ((codes "format", in_decimal 1) ∷ (codes "kind", string kind) ∷ fields)) ++ codes "\n"
