-- What a live page takes in: lines, each as what is shown and an event (profile).
use Rattle.std.specs.Prelude.{◌≡◌, ◌≤◌, ◌⊎◌, ℕ, ◌+◌, ◌/◌, ◌^◌, Bool, true, List, string_bytes, Option, Some, None}
use Rattle.std.specs.Prelude.{if◌then◌else◌, nat_lt}
use Rattle.std.specs.Net.Addr.{MatchIp, IsLoopbackV4, IsLoopbackV6}
use Rattle.std.specs.Net.Socket.{socket_ip}
use Rattle.std.specs.declared.net.socket_addr.SocketAddr.{SocketAddr}
use Rattle.page.specs.declared.state.page.Took.{Took}
use Rattle.page.specs.declared.state.page.Took.TheVariants.{Ours}
use Rattle.page.specs.declared.state.page.Took.TheVariants.{Other as OtherLine}
use Rattle.page.specs.declared.intake.taking.Taken.{Taken}
use Rattle.page.specs.declared.intake.taking.Taken.TheVariants.{Event, Unsent, Other}
use Rattle.page.specs.declared.intake.taking.Intake.{Intake}
use Rattle.page.specs.State.{State}
use Rattle.page.specs.StateView.{state_of}
use Rattle.page.specs.Counts.{one_more}
use Rattle.page.specs.Taking.{Takes}
use Rattle.page.specs.Events.{Past, IsOneLine, next, with_line}

-- What came of the lines: what is shown, what is kept of the events, how many lines came, 2^64 - 1 at most, and whether
-- one was no object of ours.
pub record Board : Type 0 where
  pub shown : State
  pub past : Past
  pub count : ℕ
  pub refused : Bool

abbrev pub board_of : Intake → Board
board_of i = record { shown = state_of i.page; past = i.history; count = i.count; refused = i.refused }

-- A text is the next event; or none, where it is not one line, or no number below 2^64 is left.
abbrev pub Adds : (text : List ℕ) → (before behind : Past) → Taken → Type 0
Adds text before behind Event = (behind ≡ with_line before text) × IsOneLine text
Adds text before behind Unsent = (behind ≡ before) × ((IsOneLine text → ⊥) ⊎ (2 ^ 64 ≤ next before + 1))
Adds text before behind (Other number) = ⊥

-- What comes of a line that is taken: of an object of ours its text is the next event, where it may be one; another
-- line is remembered, and told by its number.
abbrev pub Comes : Took → (before behind : Board) → Taken → Type 0
Comes (Ours text) before behind taken =
    Adds (string_bytes text) before.past behind.past taken × (behind.refused ≡ before.refused)
Comes OtherLine before behind taken =
    (taken ≡ Other (one_more true before.count)) × (behind.past ≡ before.past) × (behind.refused ≡ true)

-- A line that came then was taken, once.
abbrev pub TakesIn : (line : List ℕ) → (came : ℕ) → (before behind : Board) → Taken → Type 0
TakesIn line came before behind taken =
    (took : Took) × Takes line came before.shown behind.shown took × Comes took before behind taken
    × (behind.count ≡ one_more true before.count)

-- The exit status at the end of the input: 1 where a line was no object of ours, else 0.
abbrev pub status_of : (refused : Bool) → ℕ
status_of refused = if refused then 1 else 0

-- The number of the first event: the time since 1970 in microseconds, told in nanoseconds; 1 where there is no clock,
-- or no 64 bits for it.
abbrev pub first_number : (since : Option ℕ) → ℕ
first_number None = 1
first_number (Some since) = if nat_lt (since / 1000) (2 ^ 64) then since / 1000 else 1

-- The place is on a loopback address (RFC 1122, section 3.2.1.3; RFC 4291, section 2.5.3).
abbrev pub IsLoopback : SocketAddr → Type 0
IsLoopback place = MatchIp (socket_ip place) IsLoopbackV4 IsLoopbackV6
