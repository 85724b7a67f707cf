-- What is told of the history, as JSON (profile).
use Rattle.std.specs.Prelude.{ℕ, List, [], ◌∷◌, codes, flat_map, if◌then◌else◌}
use Rattle.serde_json.specs.Data.{Data, number, unsigned, string, array, object, Items, no_items, item}
use Rattle.serde_json.specs.Data.{no_members, member}
use Rattle.serde_json.specs.View.{items_of}
use Rattle.page.specs.Announced.{seconds_since}
use Rattle.page.specs.Changes.{Change, is_recent}
use Rattle.page.specs.ControlLine.{Line}
use Rattle.page.specs.State.{State}
use Rattle.page.specs.Texts.{text_data, flag_data}

-- A row as an object, its members in the order of their names, where the page's clock says now.
abbrev pub row_data : (now : ℕ) → Change → Data
row_data now c = object (member (codes "ago") (number (unsigned (seconds_since now c.came)))
    (member (codes "rt") (text_data c.seen.rt) (member (codes "service") (number (unsigned c.seen.service))
    (member (codes "set") (number (unsigned c.seen.set)) (member (codes "ta") (flag_data c.seen.ta)
    (member (codes "tp") (flag_data c.seen.tp) no_members))))))

-- Of a row what is told: all of it, or nothing where it came a day ago or earlier.
abbrev pub told_row : (now : ℕ) → Change → List Data
told_row now c = if is_recent now c then row_data now c ∷ [] else []

-- The rows of a control line, oldest first.
abbrev pub rows_data : (now : ℕ) → List Change → Items
rows_data now cs = items_of (flat_map (told_row now) cs)

abbrev pub line_history : (now : ℕ) → Line → Data
line_history now l =
    object (member (codes "line") (string l.name)
    (member (codes "rows") (array (rows_data now l.history)) no_members))

abbrev pub line_histories : (now : ℕ) → List Line → Items
line_histories now [] = no_items
line_histories now (l ∷ ls) = item (line_history now l) (line_histories now ls)

-- The histories of all control lines as an object of the kind `history`.
abbrev pub history_data : (now : ℕ) → State → Data
history_data now s =
    object (member (codes "format") (number (unsigned 1)) (member (codes "kind") (string (codes "history"))
    (member (codes "lines") (array (line_histories now s.lines)) no_members)))
