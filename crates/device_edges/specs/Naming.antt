-- The name of a line in the objects that are told of it (profile).
use Rattle.std.specs.Prelude.{◌≡◌, ◌==◌, ◌&&◌, ℕ, Bool, true, false, not, List, [], ◌∷◌, ◌++◌, codes, if◌then◌else◌}
use Rattle.std.specs.List.{list_all}

-- The member `line` with this name, as it stands behind others.
abbrev pub line_member : (name : List ℕ) → List ℕ
line_member name = codes ",\"line\":\"" ++ (name ++ codes "\"")

-- A text begins with a line feed.
abbrev pub at_end : List ℕ → Bool
at_end [] = false
at_end (b ∷ text) = b == 10

-- Lines of objects, each with that member as its last: it stands before each brace that ends a line. No line ends in a
-- string of JSON.
abbrev pub named : (name lines : List ℕ) → List ℕ
named name [] = []
named name (b ∷ lines) =
    if b == 125 && at_end lines then line_member name ++ (b ∷ named name lines) else b ∷ named name lines

-- A text has no line feed.
abbrev pub is_one_line : List ℕ → Bool
is_one_line text = list_all (λ b. not (b == 10)) text

-- An object's line gets the member before its closing brace, and nothing else becomes of it, whatever follows.
abbrev pub NamesEach : Type 0
NamesEach = (name object rest : List ℕ) → is_one_line object ≡ true
    → named name (object ++ (codes "}\n" ++ rest)) ≡ object ++ (line_member name ++ (codes "}\n" ++ named name rest))
