-- Laws of the lines of JSON (profile).
use Rattle.std.specs.Prelude.{◌≡◌, ◌<◌, ◌≤◌, ◌^◌, ℕ, nat_le, Bool, true, List, ◌++◌, codes, Some, ⊤}
use Rattle.std.specs.List.{list_all}
use Rattle.json.specs.Json.{document, max_depth}
use Rattle.serde_json.specs.Data.{Data, null, boolean, number, string, array, object, unsigned, negative, float}
use Rattle.serde_json.specs.Data.{Items, no_items, item, Members, no_members, member, depth}
use Rattle.serde_json.specs.Written.{outline, compact_text}
use Rattle.json_lines.specs.Objects.{Field, line_of}

-- A byte that is no control.
abbrev pub is_visible : ℕ → Bool
is_visible byte = nat_le 0x20 byte

-- A text is one line: no control stands in it, but for the line feed at its end.
abbrev pub IsOneLine : List ℕ → Type 0
IsOneLine line = (text : List ℕ) × (line ≡ text ++ codes "\n") × (list_all is_visible text ≡ true)

-- Law: an object is one line, whatever its kind and its members are (profile).
abbrev pub IsALine : Type 0
IsALine = (kind : List ℕ) (fields : List Field) → IsOneLine (line_of kind fields)

-- Each number of a value is an unsigned one below 2 ^ 64.
abbrev mutual
  pub HasCounts : Data → Type 0
  HasCounts null = ⊤
  HasCounts (boolean b) = ⊤
  HasCounts (number (unsigned n)) = n < 2 ^ 64
  HasCounts (number (negative z)) = ⊥
  HasCounts (number (float x)) = ⊥
  HasCounts (string s) = ⊤
  HasCounts (array values) = ItemsHaveCounts values
  HasCounts (object members) = MembersHaveCounts members

  pub ItemsHaveCounts : Items → Type 0
  ItemsHaveCounts no_items = ⊤
  ItemsHaveCounts (item value values) = HasCounts value × ItemsHaveCounts values

  pub MembersHaveCounts : Members → Type 0
  MembersHaveCounts no_members = ⊤
  MembersHaveCounts (member name value members) = HasCounts value × MembersHaveCounts members

-- Law: the text of such a value is read, by the grammar of RFC 8259, as that value, its members in the same order.
abbrev pub IsReadBack : Type 0
IsReadBack = (value : Data) → HasCounts value → depth value ≤ max_depth
    → document (compact_text value) ≡ Some (outline value)
