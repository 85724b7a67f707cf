-- A server that goes on from what was kept of it; a reader has to believe it. Source: profile.
use Rattle.std.specs.Prelude.{◌≡◌, ℕ, suc, ◌+◌, ◌-◌, ◌<◌, ◌==◌, ◌&&◌, ◌||◌, nat_le, not, Bool, true, false, List, []}
use Rattle.std.specs.Prelude.{◌∷◌, length, map, Option, Some, None, if◌then◌else◌}
use Rattle.uecp_frame.specs.Findings.{Closed}
use Rattle.uecp_link.specs.Counters.{counter_of}
use Rattle.uecp_link.specs.Server.{Held, ServerState, nothing_counted}
use Rattle.uecp_link.specs.declared.kept_message.KeptMessage.{KeptMessage}
use Rattle.uecp_link.specs.declared.kept_message.LentMessage.{LentMessage}

-- A message that a server lends, as it holds it.
abbrev pub held_of : LentMessage → Held
held_of lent = record { counter = lent.counter; message = lent.message.now; marked = lent.marked }

-- What is kept of a message that is held: all but its counter, which follows from its place.
abbrev pub kept_of : Held → KeptMessage
kept_of h = record { message = h.message; marked = h.marked }

-- Messages under the counters of numbers in turn, the first of which has this number.
abbrev pub numbered_from : (number : ℕ) → List KeptMessage → List Held
numbered_from number [] = []
numbered_from number (m ∷ ms) =
    record { counter = counter_of number; message = m.message; marked = m.marked } ∷ numbered_from (suc number) ms

-- Messages under their counters, the oldest first: the newest has the last counter, and each other one the counter
-- before that of the next. Numbers whose counters are those are 255 further on, so that none is below 0.
abbrev pub held_up_to : (last : ℕ) → List KeptMessage → List Held
held_up_to last ms = numbered_from (last + 255 - length ms) ms

-- Whether the oldest of these is marked.
abbrev pub is_oldest_kept_marked : List KeptMessage → Bool
is_oldest_kept_marked [] = false
is_oldest_kept_marked (m ∷ ms) = m.marked

-- Whether a server with this last counter can hold these messages: at most eight, the oldest of which waits, and none
-- before the first message.
abbrev pub can_hold : (last : ℕ) → List KeptMessage → Bool
can_hold last ms = nat_le (length ms) 8 && (not (is_oldest_kept_marked ms) && (not (last == 0) || length ms == 0))

-- The server with this last counter that holds these messages, where one can: nothing counted, nothing open.
abbrev pub resumed_at : (address last : ℕ) → List KeptMessage → Option ServerState
resumed_at address last ms =
    if can_hold last ms
    then Some (record {
      address = address;
      last = last;
      held = held_up_to last ms;
      counts = nothing_counted;
      part = Closed;
    })
    else None

-- What is so of each server: its last counter is a byte, and it holds the messages of the last counters in turn, as it
-- can.
pub record IsServer (s : ServerState) : Type 0 where
  pub last : s.last < 256
  pub can : can_hold s.last (map kept_of s.held) ≡ true
  pub in_turn : s.held ≡ held_up_to s.last (map kept_of s.held)
