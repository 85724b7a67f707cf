-- The stream of events of one connection, and where it stands (profile).
use Rattle.std.specs.Prelude.{◌≡◌, ℕ, ◌+◌, ◌<◌, ◌⊎◌, List, [], ◌++◌, length, flat_map}
use Rattle.http1.specs.declared.conn.Writing.{Writing}
use Rattle.http1.specs.Conn.{data_text, finish_text}
use Rattle.page.specs.declared.clients.client.Phase.{Phase}
use Rattle.page.specs.declared.clients.client.Phase.TheVariants.{Live, Closing}
use Rattle.page.specs.Events.{Event, Past, kept, from}
use Rattle.page.specs.Stream.{part_text, carries, alive}

-- An event as it goes out on a connection.
abbrev pub event_bytes : Writing → Event → List ℕ
event_bytes writing event = data_text writing (part_text (carries event.number event.line))

-- Where a connection stands: what it is for, how its body is written, the number of the next event that it is owed, and
-- what waits to be written.
pub record Standing : Type 0 where
  pub phase : Phase
  pub writing : Writing
  pub due : ℕ
  pub output : List ℕ

-- The events that it is owed of those that are kept.
abbrev pub owed : Past → Standing → List Event
owed past x = from x.due (kept past)

-- These bytes were written, and then what waits is what waited before and these events, each whole and in order, which
-- were the next that it was owed; it is owed the rest.
pub record Delivers (past : Past) (events : List Event) (written : List ℕ) (x x' : Standing) : Type 0 where
  pub owed_before : owed past x ≡ events ++ owed past x'
  pub due : x'.due ≡ x.due + length events
  pub output : written ++ x'.output ≡ x.output ++ flat_map (event_bytes x.writing) events
  pub writing : x'.writing ≡ x.writing

-- Fewer than 64 KiB wait, and behind them one event.
abbrev pub FewWait : Standing → Type 0
FewWait x = (bytes : List ℕ) × (event : Event) × (x.output ≡ bytes ++ event_bytes x.writing event)
    × (length bytes < 65536)

-- These bytes were written of what waited, and nothing else changed.
pub record Writes (written : List ℕ) (x x' : Standing) : Type 0 where
  pub output : written ++ x'.output ≡ x.output
  pub same : x' ≡ record x { output = x'.output }

-- It gets events.
abbrev pub IsLive : Standing → Type 0
IsLive x = x.phase ≡ Live

-- A browser may have been told that all is well: where it gets events and nothing waits a comment waits then, which no
-- page sees, or nothing changed, as without memory. It is owed the same events.
abbrev pub SaysAlive : (x x' : Standing) → Type 0
SaysAlive x x' =
    (x' ≡ x) ⊎ (IsLive x × (x.output ≡ []) × (x' ≡ record x { output = data_text x.writing (part_text alive) }))

-- No more events come, and it is closed once what waits is sent: what waited, and behind it, where it got events, the
-- end of their stream, so that a browser knows that it is whole; without memory that is not said.
pub record Ends (x x' : Standing) : Type 0 where
  pub phase : x'.phase ≡ Closing
  pub due : x'.due ≡ x.due
  pub output : (x'.output ≡ x.output) ⊎ (IsLive x × (x'.output ≡ x.output ++ finish_text x.writing []))
