-- What a live page shows: a card for each control line (profile).
use Rattle.std.specs.Prelude.{ℕ, ◌==◌, ◌-◌, Bool, true, ◌||◌, not, List, [], ◌∷◌}
use Rattle.page.specs.Members.{name_of}
use Rattle.page.specs.Shown.{told_among}
use Rattle.page.specs.Counts.{one_more, is_told}
use Rattle.page.specs.ControlLine.{Arrived, Line, new_line, is_named, line_after}

-- The control lines, in the order in which something was first told of them, 128 at most; how many lines of input were
-- no object of ours; how many objects were of a further control line, which are shown nowhere; how many messages were
-- told, of whatever control line, and by whichever end.
pub record State : Type 0 where
  pub lines : List Line
  pub others : ℕ
  pub further : ℕ
  pub messages : ℕ

abbrev pub at_first : State
at_first = record { lines = []; others = 0; further = 0; messages = 0 }

-- Of control lines this one once that was told of it; a new one comes last, where there is room for so many more.
abbrev pub told_line : (room : ℕ) → (name : List ℕ) → Arrived → List Line → List Line
told_line room name d ls = told_among room (is_named name) (line_after d) (new_line name) ls

-- It is one of these, or there is room for it.
abbrev pub has_place : (room : ℕ) → (name : List ℕ) → List Line → Bool
has_place room name [] = not (room == 0)
has_place room name (l ∷ ls) = is_named name l || has_place (room - 1) name ls

-- An object was told of the control line that it names; or it is of a further one.
abbrev pub told_in : Arrived → State → State
told_in d s = record s {
  lines = told_line 128 (name_of d.object) d s.lines;
  further = one_more (not (has_place 128 (name_of d.object) s.lines)) s.further;
}

-- Behind an object of ours.
abbrev pub after : Arrived → State → State
after d s = told_in d (record s { messages = one_more (is_told d.object) s.messages })

-- Behind another line of input.
abbrev pub after_other : State → State
after_other s = record s { others = one_more true s.others }

-- The fold: what is shown behind objects, in the order in which they came.
abbrev pub shown_of : List Arrived → State → State
shown_of [] s = s
shown_of (d ∷ ds) s = shown_of ds (after d s)
