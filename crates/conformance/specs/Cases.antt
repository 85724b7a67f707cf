-- The cases that a file spells (profile).
use Rattle.std.specs.Prelude.{◌≡◌, ℕ, Bool, true, false, List, [], ◌∷◌, ◌++◌, map, flat_map, filter_map, Option, Some}
use Rattle.std.specs.Prelude.{None}
use Rattle.uecp_text.specs.Input.{lines_of, said}
use Rattle.conformance.specs.declared.case.Case.{Case}
use Rattle.conformance.specs.declared.line.Line.{Line}
use Rattle.conformance.specs.declared.line.Line.TheVariants.{Form, Name, Group, Rule, Profile, Pieces, Does}
use Rattle.conformance.specs.declared.case_file.Open.{Open}
use Rattle.conformance.specs.declared.case_file.Open.TheVariants.{Start, Between, Named, Grouped, Whole}
use Rattle.conformance.specs.Lines.{IsLine}

-- The line that says that a case is this project's own, where it is.
abbrev pub profile_line : Bool → List Line
profile_line true = Profile ∷ []
profile_line false = []

-- The line that says how many bytes are written at a time, where it is said.
abbrev pub pieces_line : Option ℕ → List Line
pieces_line None = []
pieces_line (Some size) = Pieces size ∷ []

-- The lines of a case: its name, its group and its rule, what else is so of it, and its steps.
abbrev pub case_lines : Case → List Line
case_lines case = (Name case.name ∷ Group case.group ∷ Rule case.rule ∷ [])
    ++ (profile_line case.profile ++ (pieces_line case.pieces ++ map (λ step. Does step) case.steps.items))

-- The lines of a file of cases: its form, and the lines of each case, in order.
abbrev pub all_lines : List Case → List Line
all_lines cases = Form ∷ flat_map case_lines cases

-- Texts say lines, each one.
abbrev pub SayLines : List (List ℕ) → List Line → Type 0
SayLines [] [] = Unit {0}
SayLines (text ∷ texts) (line ∷ lines) = IsLine text line × SayLines texts lines
SayLines texts lines = ⊥

-- A file spells cases: what its lines say, but for blank lines and comments, are the lines of these cases, one by one.
abbrev pub Spells : (file : List ℕ) → List Case → Type 0
Spells file cases = SayLines (filter_map said (lines_of file)) (all_lines cases)

-- The lines so far, by the cases that are whole and by what is open (private).
abbrev pub so_far : List Case → Open → List Line
so_far cases Start = []
so_far cases Between = all_lines cases
so_far cases (Named name) = all_lines cases ++ Name name ∷ []
so_far cases (Grouped name group) = all_lines cases ++ (Name name ∷ Group group ∷ [])
so_far cases (Whole case) = all_lines cases ++ case_lines case

-- A line came after these lines (private).
abbrev pub Joins : Line → (before after : List Line) → Type 0
Joins line before after = after ≡ before ++ line ∷ []

-- What a line says came after these lines, if it says anything (private).
abbrev pub Takes : Option (List ℕ) → (before after : List Line) → Type 0
Takes None before after = after ≡ before
Takes (Some text) before after = (line : Line) × IsLine text line × Joins line before after
