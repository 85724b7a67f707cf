-- The whole life of a connection: what happens to it, and what its browser was sent in it.
use Rattle.std.specs.Prelude.{◌≡◌, ◌<◌, ◌⊎◌, ℕ, Bool, List, [], ◌∷◌, ◌++◌, flat_map, length}
use Rattle.std.specs.List.{AllByRecursion}
use Rattle.http1.specs.declared.conn.Writing.TheVariants.{Body}
use Rattle.http1.specs.declared.encode.Encoder.TheVariants.{Chunked}
use Rattle.http1.specs.Conn.{data_text, finish_text}
use Rattle.page.specs.declared.clients.client.Phase.TheVariants.{Asking, Closing}
use Rattle.page.specs.Events.{Event, Past, with_line, from}
use Rattle.page.specs.Stream.{Part, carries, gap, alive, part_text}
use Rattle.page.specs.Laws.{Step, comes, sends, events_in}
use Rattle.page.specs.Sending.{Standing, IsLive, owed, Delivers, Writes, SaysAlive, Ends}
use Rattle.page.specs.Answers.{Source}
use Rattle.page.specs.Hearing.{Hears}

-- A connection in its life: what is kept of the events, the bytes that came of its request, where it stands, and the
-- bytes that were written to it.
pub record Life : Type 0 where
  pub past : Past
  pub came : List ℕ
  pub standing : Standing
  pub written : List ℕ

-- What it was sent: what was written to it, and what waits to be.
abbrev pub sent_to : Life → List ℕ
sent_to life = life.written ++ life.standing.output

-- A connection that has asked for nothing and is told nothing, as `Client::new` makes it.
abbrev pub IsNew : Standing → Type 0
IsNew x = (x.phase ≡ Asking) × (x.output ≡ [])

abbrev pub born : Past → Standing → Life
born past x = record { past = past; came = []; standing = x; written = [] }

-- What happens: a line becomes an event; bytes come of its request; these events are put behind what waits, and these
-- bytes written; a turn comes to say that all is well; it is ended.
pub data Turn : Type 0 where
  line_comes : (line : List ℕ) → Turn
  bytes_come : (source : Source) → (own_only : Bool) → (bytes : List ℕ) → Turn
  is_sent : (events : List Event) → (bytes : List ℕ) → Turn
  is_assured : Turn
  is_ended : Turn

-- What each turn makes of it, as the contracts of `History::add` and of `Client::receive`, `catch_up`, `deliver`,
-- `write_to`, `say_alive` and `end` have it.
abbrev pub Becomes : Turn → (l l' : Life) → Type 0
Becomes (line_comes line) l l' = l' ≡ record l { past = with_line l.past line }
Becomes (bytes_come source own_only bytes) l l' =
    (l' ≡ record l { came = l.came ++ bytes; standing = l'.standing }) × (source.past ≡ l.past)
    × (l.standing.phase ≡ Asking → Hears source own_only (l.came ++ bytes) l.standing l'.standing)
    × ((l.standing.phase ≡ Asking → ⊥) → l'.standing ≡ l.standing)
Becomes (is_sent events bytes) l l' =
    (l' ≡ record l { standing = l'.standing; written = l.written ++ bytes })
    × (l'.standing.phase ≡ l.standing.phase)
    × (IsLive l.standing → Delivers l.past events bytes l.standing l'.standing)
    × ((IsLive l.standing → ⊥) → (events ≡ []) × Writes bytes l.standing l'.standing)
Becomes is_assured l l' = (l' ≡ record l { standing = l'.standing }) × SaysAlive l.standing l'.standing
Becomes is_ended l l' = (l' ≡ record l { standing = l'.standing }) × Ends l.standing l'.standing

-- One turn after another.
abbrev pub Runs : (l : Life) → List Turn → (l' : Life) → Type 0
Runs l [] l' = l' ≡ l
Runs l (turn ∷ turns) l' = (next : Life) × Becomes turn l next × Runs next turns l'

-- What of that the laws of events speak of: the lines that come, and how many events are sent.
abbrev pub steps_of : List Turn → List Step
steps_of [] = []
steps_of (line_comes line ∷ turns) = comes line ∷ steps_of turns
steps_of (bytes_come source own_only bytes ∷ turns) = steps_of turns
steps_of (is_sent events bytes ∷ turns) = sends (length events) ∷ steps_of turns
steps_of (is_assured ∷ turns) = steps_of turns
steps_of (is_ended ∷ turns) = steps_of turns

-- What is kept once the lines of these turns came, and the bytes of a request that came in them.
abbrev pub past_behind : Past → List Turn → Past
past_behind past [] = past
past_behind past (line_comes line ∷ turns) = past_behind (with_line past line) turns
past_behind past (bytes_come source own_only bytes ∷ turns) = past_behind past turns
past_behind past (is_sent events bytes ∷ turns) = past_behind past turns
past_behind past (is_assured ∷ turns) = past_behind past turns
past_behind past (is_ended ∷ turns) = past_behind past turns

abbrev pub bytes_in : List Turn → List ℕ
bytes_in [] = []
bytes_in (line_comes line ∷ turns) = bytes_in turns
bytes_in (bytes_come source own_only bytes ∷ turns) = bytes ++ bytes_in turns
bytes_in (is_sent events bytes ∷ turns) = bytes_in turns
bytes_in (is_assured ∷ turns) = bytes_in turns
bytes_in (is_ended ∷ turns) = bytes_in turns

-- The events that parts of a stream carry: a comment carries none.
abbrev pub carried : List Part → List Event
carried [] = []
carried (carries number line ∷ parts) = record { number = number; line = line } ∷ carried parts
carried (gap ∷ parts) = carried parts
carried (alive ∷ parts) = carried parts

-- An event or a comment: that events are gone is said at the beginning alone.
abbrev pub IsLater : Part → Type 0
IsLater (carries number line) = Unit {0}
IsLater gap = ⊥
IsLater alive = Unit {0}

-- Parts as they go out, in chunks.
abbrev pub chunks : List Part → List ℕ
chunks parts = flat_map (λ part. data_text (Body Chunked) (part_text part)) parts

-- Its request was answered or refused once, at one of the turns, from what was kept then and on all bytes that came
-- until then; and what it was sent is what it was told at that turn, and where it got events from then on, behind that
-- each event from the first that it was owed, once and in order, and comments; and where that was ended the end of the
-- stream; and nothing else. Of the events that there are from that one on a rest is not sent, which it is owed still
-- where that is kept.
pub record IsTold (past : Past) (x : Standing) (turns : List Turn) (life : Life) : Type 0 where
  pub before : List Turn
  pub source : Source
  pub own_only : Bool
  pub bytes : List ℕ
  pub after : List Turn
  pub turn : turns ≡ before ++ bytes_come source own_only bytes ∷ after
  pub kept_then : source.past ≡ past_behind past before
  pub told : Standing
  pub hears : Hears source own_only (bytes_in before ++ bytes) x told
  pub parts : List Part
  pub ending : List ℕ
  pub sent : sent_to life ≡ told.output ++ (chunks parts ++ ending)
  pub later : AllByRecursion IsLater parts
  pub only : (IsLive told → ⊥) → (parts ≡ []) × (ending ≡ [])
  pub ends : (ending ≡ []) ⊎ ((life.standing.phase ≡ Closing) × (ending ≡ finish_text (Body Chunked) []))
  pub once : IsLive told → (rest : List Event)
      × (carried parts ++ rest ≡ from told.due (events_in past (steps_of turns)))
  pub whole : IsLive told → (life.standing.due < life.past.first)
      ⊎ (carried parts ++ owed life.past life.standing ≡ from told.due (events_in past (steps_of turns)))

-- Law: whatever happens to a connection, and in whatever order, its browser was sent nothing, or that.
abbrev pub WholeLife : Type 0
WholeLife = (past : Past) (x : Standing) (turns : List Turn) (life : Life) → IsNew x → Runs (born past x) turns life
    → (sent_to life ≡ []) ⊎ IsTold past x turns life
