-- What a line of phrases says that is made to fit where it says nothing as it stands (profile).
use Rattle.std.specs.Prelude.{ℕ, List, Option, Some, None}
use Rattle.rds_text.specs.declared.programme_type.Region.{Region}
use Rattle.phrase_scripts.specs.Lines.{Line, SaysLine, SaysNothing}
use Rattle.titles.specs.Strings.{IsRefitted}

-- What a line says: what it says as it stands; or where it says nothing so, what it says with its strings made to fit,
-- and this is it then.
abbrev pub SaysRefitted : Region → (text : List ℕ) → Line → (fitted : Option (List ℕ)) → Type 0
SaysRefitted region text line None = SaysLine region text line
SaysRefitted region text line (Some fitted) =
    SaysNothing region text × IsRefitted text fitted
    × SaysLine region fitted line

-- It says nothing as it stands, and nothing with its strings made to fit.
abbrev pub SaysNeither : Region → (text : List ℕ) → Type 0
SaysNeither region text =
    SaysNothing region text × ((fitted : List ℕ) × IsRefitted text fitted × SaysNothing region fitted)
