-- Server-Sent Events: what is sent, and what a browser takes from it (the HTML standard, "Parsing an event stream" and
-- "Interpreting an event stream"), of streams that have neither a carriage return nor a byte order mark.
use Rattle.std.specs.Prelude.{ℕ, ◌==◌, List, [], ◌∷◌, ◌++◌, codes, decimal, Option, Some, None}
use Rattle.std.specs.Prelude.{if◌then◌else◌}
use Rattle.std.specs.List.{list_any}
use Rattle.std.specs.Str.{bytes_eq}

-- ---- What is sent.
-- A part of a stream: the event of this number, which carries this line; that events are gone; that all is well.
pub data Part : Type 0 where
  carries : (number : ℕ) → (line : List ℕ) → Part
  gap : Part
  alive : Part

abbrev pub part_text : Part → List ℕ
part_text (carries number line) =
    codes "id: " ++ (decimal number ++ 10 ∷ (codes "data: " ++ (line ++ 10 ∷ 10 ∷ [])))
part_text gap = codes "event: gap\ndata: events are gone\n\n"
part_text alive = codes ": alive\n\n"

-- ---- What a browser takes.
-- An event as a page gets it: the last id that was named, the type that was named, and the data.
pub record Message : Type 0 where
  pub id : List ℕ
  pub type : List ℕ
  pub said : List ℕ

-- What a browser holds between two lines: the last id, the type of the event that is coming, and its data so far, if
-- there are any.
pub record Held : Type 0 where
  pub id : List ℕ
  pub type : List ℕ
  pub said : Option (List ℕ)

-- The name of a field: what stands before the first colon, or the whole line.
abbrev pub name_of : List ℕ → List ℕ
name_of [] = []
name_of (byte ∷ line) = if byte == 58 then [] else byte ∷ name_of line

-- A text without one space at its beginning.
abbrev pub without_space : List ℕ → List ℕ
without_space [] = []
without_space (byte ∷ text) = if byte == 32 then text else byte ∷ text

-- The value of a field: what stands behind the first colon, without one space.
abbrev pub value_of : List ℕ → List ℕ
value_of [] = []
value_of (byte ∷ line) = if byte == 58 then without_space line else value_of line

-- Data with one line more.
abbrev pub with_data : Option (List ℕ) → List ℕ → List ℕ
with_data None line = line
with_data (Some said) line = said ++ 10 ∷ line

-- A field is taken by its name; an id that has a NULL is not, nor is a field of another name, as a comment.
abbrev pub with_field : (name value : List ℕ) → Held → Held
with_field name value held =
    if bytes_eq name (codes "data") then record held { said = Some (with_data held.said value) }
    else if bytes_eq name (codes "id") then (if list_any (λ byte. byte == 0)
    value then held else record held { id = value })
    else if bytes_eq name (codes "event") then record held { type = value }
    else held

-- At an empty line the event has come, if it has data.
abbrev pub come : Held → List Message
come held = elim held.said [ None ↦ [] | Some said ↦ record { id = held.id; type = held.type; said = said } ∷ [] ]

-- The id stays for the next.
abbrev pub rested : Held → Held
rested held = record { id = held.id; type = []; said = None }

-- At the end of a line: where it is empty the event has come, and another gives a field.
abbrev pub at_end : (line : List ℕ) → Held → (after : Held → List Message) → List Message
at_end [] held after = come held ++ after (rested held)
at_end (byte ∷ line) held after = after (with_field (name_of (byte ∷ line)) (value_of (byte ∷ line)) held)

-- The events of the rest of a stream, behind this part of a line. What no empty line ends is none.
unfoldable pub messages_from : (part : List ℕ) → Held → List ℕ → List Message
messages_from part held [] = []
messages_from part held (byte ∷ stream) =
    if byte == 10 then at_end part held (λ after. messages_from [] after stream)
    else messages_from (part ++ byte ∷ []) held stream

-- A browser that has read nothing.
abbrev pub nothing_held : Held
nothing_held = record { id = []; type = []; said = None }

-- The events of a stream.
abbrev pub messages : List ℕ → List Message
messages stream = messages_from [] nothing_held stream
