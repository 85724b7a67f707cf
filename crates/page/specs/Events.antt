-- Lines as numbered events, and how many of them are kept (profile).
use Rattle.std.specs.Prelude.{◌≡◌, ℕ, ◌+◌, ◌-◌, Bool, false, ◌||◌, ◌==◌, List, [], ◌∷◌, ◌++◌, length, drop, max}
use Rattle.std.specs.Prelude.{if◌then◌else◌, nat_lt, nat_le, Option, Some, None}
use Rattle.std.specs.List.{list_any, filter}

-- An event: its number, and the line that it carries.
pub record Event : Type 0 where
  pub number : ℕ
  pub line : List ℕ

-- A line feed ends a line, and a carriage return.
abbrev pub ends_line : ℕ → Bool
ends_line byte = byte == 10 || byte == 13

-- A text in which no line ends.
abbrev pub IsOneLine : List ℕ → Type 0
IsOneLine text = list_any ends_line text ≡ false

-- Lines as events, the first under this number and each other under the next.
abbrev pub numbered : ℕ → List (List ℕ) → List Event
numbered first [] = []
numbered first (line ∷ lines) = record { number = first; line = line } ∷ numbered (first + 1) lines

-- What is kept of the events that came: the lines of the last ones, and the number of the first of these.
pub record Past : Type 0 where
  pub first : ℕ
  pub lines : List (List ℕ)

-- The events that are kept.
abbrev pub kept : Past → List Event
kept past = numbered past.first past.lines

-- The number of the event that comes next.
abbrev pub next : Past → ℕ
next past = past.first + length past.lines

-- How many of so many events are kept no longer: all but the last 1,000.
abbrev pub surplus : ℕ → ℕ
surplus count = count - 1000

-- What is kept once one more line came: it is the last event, and of all the last 1,000 are kept.
abbrev pub with_line : Past → List ℕ → Past
with_line past line =
    let gone = surplus (length past.lines + 1) in
    record { first = past.first + gone; lines = drop gone (past.lines ++ line ∷ []) }

-- Of events those from a number on.
abbrev pub from : ℕ → List Event → List Event
from number events = filter (λ event. nat_le number event.number) events

-- From which number on a browser is owed events that names this one as its last: from the one behind it, as far as
-- that is kept; from the first that is kept where it names none, or one that no event has had yet.
abbrev pub due : Option ℕ → Past → ℕ
due None past = past.first
due (Some last) past = if nat_lt last (next past) then max (last + 1) past.first else past.first

-- Whether events between the one that it names and the first that is kept are gone.
abbrev pub is_gap : Option ℕ → Past → Bool
is_gap None past = false
is_gap (Some last) past = nat_lt (last + 1) past.first
