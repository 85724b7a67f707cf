-- Laws of the events of a live page.
use Rattle.std.specs.Prelude.{◌≡◌, ℕ, ◌+◌, ◌<◌, ◌^◌, ◌⊎◌, List, [], ◌∷◌, ◌++◌, length, take, codes, decimal, All}
use Rattle.std.specs.Prelude.{flat_map}
use Rattle.std.specs.Prelude.{if◌then◌else◌, nat_lt, Some, None}
use Rattle.page.specs.Events.{Event, IsOneLine, Past, numbered, kept, next, with_line, from, due}
use Rattle.page.specs.Stream.{Part, carries, gap, alive, part_text, Message, messages}

-- ---- The stream.
-- A number of at most 64 bits, and one line.
abbrev pub IsPart : Part → Type 0
IsPart (carries number line) = (number < 2 ^ 64) × IsOneLine line
IsPart gap = Unit {0}
IsPart alive = Unit {0}

-- What a page gets of the parts of a stream, behind one with this id: each line once, in order, under its number; that
-- events are gone where that was said; and nothing else.
abbrev pub told : (id : List ℕ) → List Part → List Message
told id [] = []
told id (carries number line ∷ parts) =
    record { id = decimal number; type = []; said = line } ∷ told (decimal number) parts
told id (gap ∷ parts) = record { id = id; type = codes "gap"; said = codes "events are gone" } ∷ told id parts
told id (alive ∷ parts) = told id parts

-- Law: a browser takes from a stream what was sent.
abbrev pub TakenAsSent : Type 0
TakenAsSent = (parts : List Part) → All IsPart parts → messages (flat_map part_text parts) ≡ told [] parts

-- ---- Who gets which events.
-- What happens: a line comes, or a browser is sent so many of the events that wait for it, or all of them.
pub data Step : Type 0 where
  comes : (line : List ℕ) → Step
  sends : (count : ℕ) → Step

-- What is kept, the number of the next event that a browser is owed, and what it was sent.
pub record World : Type 0 where
  pub past : Past
  pub owed : ℕ
  pub sent : List Event

-- The events that wait for it.
abbrev pub waiting : World → List Event
waiting world = from world.owed (kept world.past)

-- It is lost where the next event that it is owed is kept no longer. Nothing more is sent to it then.
abbrev pub IsLost : World → Type 0
IsLost world = world.owed < world.past.first

abbrev pub happens : World → Step → World
happens world (comes line) = record world { past = with_line world.past line }
happens world (sends count) =
    let events = take count (waiting world) in
    if nat_lt world.owed world.past.first then world
    else record world { owed = world.owed + length events; sent = world.sent ++ events }

-- A whole schedule.
abbrev pub run : World → List Step → World
run world [] = world
run world (step ∷ steps) = run (happens world step) steps

-- The lines that come in it.
abbrev pub lines_in : List Step → List (List ℕ)
lines_in [] = []
lines_in (comes line ∷ steps) = line ∷ lines_in steps
lines_in (sends count ∷ steps) = lines_in steps

-- All events that there are in it, whether they are kept to its end or not.
abbrev pub events_in : Past → List Step → List Event
events_in past steps = numbered past.first (past.lines ++ lines_in steps)

-- A browser that was sent nothing yet and is owed the events from this number on.
abbrev pub begins : Past → ℕ → World
begins past owed = record { past = past; owed = owed; sent = [] }

-- Law: whatever comes and whenever it is sent something, a browser that is not lost was sent, and has waiting, each
-- event from the first one that it was owed, once and in order.
abbrev pub EachOnce : Type 0
EachOnce = (past : Past) (owed : ℕ) (steps : List Step) → let world = run (begins past owed) steps in
    IsLost world ⊎ (world.sent ++ waiting world ≡ from owed (events_in past steps))

-- Law: and what was sent to any is a beginning of them.
abbrev pub BeginningOnce : Type 0
BeginningOnce = (past : Past) (owed : ℕ) (steps : List Step) → let world = run (begins past owed) steps in
    (rest : List Event) × (world.sent ++ rest ≡ from owed (events_in past steps))

-- Law: a browser that names an event is owed exactly those of the kept ones that are newer; one that names none, or
-- one that has not come, is owed all.
abbrev pub OwedNewer : Type 0
OwedNewer = (last : ℕ) (past : Past) →
    (from (due None past) (kept past) ≡ kept past)
    × (from (due (Some last) past) (kept past)
    ≡ (if nat_lt last (next past) then from (last + 1) (kept past) else kept past))
