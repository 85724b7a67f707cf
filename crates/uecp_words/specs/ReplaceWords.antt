-- The words by which the server of a line is replaced (profile).
use Rattle.std.specs.Prelude.{ℕ, List, [], ◌∷◌, codes}

-- The words that replace the server: `replace server`.
abbrev pub replace_words : List (List ℕ)
replace_words = codes "replace" ∷ codes "server" ∷ []
