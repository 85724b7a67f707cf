-- Laws of the history of a control line, and of the seconds of an announcement.
use Rattle.std.specs.Prelude.{◌≡◌, ◌≢◌, ℕ, Bool, true, false, List, [], ◌∷◌, ◌++◌, All, Some, None, find}
use Rattle.std.specs.Prelude.{unwrap_or, if◌then◌else◌}
use Rattle.page.specs.Members.{is_flag}
use Rattle.page.specs.Seen.{Seen, unseen, is_of}
use Rattle.page.specs.Changes.{Change, changes, last_1000}
use Rattle.page.specs.Announced.{since_of}
use Rattle.page.specs.ControlLine.{Arrived, Line, new_line, seen_on, line_after, line_behind}

-- What is shown of a service, among these.
abbrev pub shown_in : (set service : ℕ) → List Seen → Seen
shown_in set service ss = unwrap_or (find (is_of set service) ss) (unseen set service)

-- The same where a control line stands so.
abbrev pub shown_on : (set service : ℕ) → Line → Seen
shown_on set service l = shown_in set service (seen_on l)

-- The rows of an object, by what was shown before it and is shown behind it.
abbrev pub rows_of : Arrived → Line → List Change
rows_of d l = changes d.came (seen_on l) (seen_on (line_after d l))

-- The rows of objects, one behind another, where the line stood so before them.
abbrev pub all_rows : List Arrived → Line → List Change
all_rows [] l = []
all_rows (d ∷ ds) l = rows_of d l ++ all_rows ds (line_after d l)

-- What the last row of a service says; where it has none, what was shown before.
abbrev pub said : (set service : ℕ) → (before : Seen) → List Change → Seen
said set service before [] = before
said set service before (c ∷ cs) = said set service (if is_of set service c.seen then c.seen else before) cs

-- Law: of the rows of all objects the last 1,000 are kept, each once and in order; and they say all that was shown:
-- behind any objects, what was shown of a service is what the last of its rows up to then says, nothing where it had
-- none.
abbrev pub HistoryExactly : Type 0
HistoryExactly = (ds : List Arrived) (name : List ℕ) → let l = line_behind ds (new_line name) in
    (l.history ≡ last_1000 (all_rows ds (new_line name)))
    × ((set service : ℕ)
    → said set service (unseen set service) (all_rows ds (new_line name)) ≡ shown_on set service l)

-- Law: there is no row without a change: each row of an object says what is shown of its service behind it, and
-- something else was shown of that before.
abbrev pub NoRowWithoutChange : Type 0
NoRowWithoutChange = (ds : List Arrived) (name : List ℕ) (d : Arrived) → let l = line_behind ds (new_line name) in
    All (λ c. (c.seen ≡ shown_on c.seen.set c.seen.service (line_after d l))
    × (c.seen ≢ shown_on c.seen.set c.seen.service l)) (rows_of d l)

-- TA is shown as on of a service.
abbrev pub is_on : (set service : ℕ) → Line → Bool
is_on set service l = is_flag (shown_on set service l).ta

-- It is, behind each of these objects.
abbrev pub StaysOn : (set service : ℕ) → List Arrived → Line → Type 0
StaysOn set service [] l = Unit {0}
StaysOn set service (d ∷ ds) l = (is_on set service (line_after d l) ≡ true) × StaysOn set service ds (line_after d l)

-- Law: an announcement is on since the object came that put it on, for as long as it stays on, whatever else is told;
-- where none is shown as on none is.
abbrev pub AnnouncedExactly : Type 0
AnnouncedExactly = (before : List Arrived) (name : List ℕ) (set service : ℕ) →
    let l = line_behind before (new_line name) in is_on set service l ≡ false
    → (since_of set service l.announced ≡ None)
    × ((d : Arrived) (ds : List Arrived) → StaysOn set service (d ∷ ds) l
    → since_of set service (line_behind (d ∷ ds) l).announced ≡ Some d.came)
