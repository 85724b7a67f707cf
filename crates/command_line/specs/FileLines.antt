-- What is said of a place in a file (profile).
use Rattle.std.specs.Prelude.{ℕ, List, ◌++◌, codes, decimal}

-- The line of a place: its file, its line and its column, and what is said of it.
abbrev pub place_line : (path : List ℕ) → (line column : ℕ) → (name words : List ℕ) → List ℕ
place_line path line column name words = path ++ (codes ":" ++ (decimal line
    ++ (codes ":" ++ (decimal column ++ (codes ": " ++ (name ++ (words ++ codes "\n")))))))
