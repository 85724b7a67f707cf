-- A server's window for C (profile).
use Rattle.std.specs.Prelude.{◌≡◌, ℕ, nat_lt, if◌then◌else◌, List, [], length, slice_get, unwrap_or, Option, Some}
use Rattle.std.specs.Prelude.{Result, Ok, Err}
use Rattle.uecp_link.specs.Server.{ServerState, submitted, waiting, frames_waiting}
use Rattle.c_values.specs.declared.object.Object.{Object}
use Rattle.c_values.specs.declared.object.Object.TheVariants.{Server}
use Rattle.c_values.specs.Statuses.{done, message_length, window_full}

-- What is said of a message that is submitted: that it is too long, or else that eight are held, or else that it was
-- taken.
abbrev pub submitting : ServerState → (message : List ℕ) → ℕ
submitting s message =
    if nat_lt 255 (length message) then message_length
    else if nat_lt (length s.held) 8 then done
    else window_full

-- The server after a message was submitted: only where it was taken, something changed.
abbrev pub after_submitting : ServerState → (message : List ℕ) → ServerState
after_submitting s message =
    if nat_lt 255 (length message) then s
    else if nat_lt (length s.held) 8 then submitted s message
    else s

-- How many messages wait at the server; 0 where there is none.
abbrev pub count_waiting : Result ServerState ℕ → ℕ
count_waiting (Ok s) = length (waiting s)
count_waiting (Err why) = 0

-- The frame at a place among those that wait at the server, the oldest first; none where there is no such place, or no
-- server.
abbrev pub frame_of : Result ServerState ℕ → (place : ℕ) → List ℕ
frame_of (Ok s) place = unwrap_or (slice_get (frames_waiting s) place) []
frame_of (Err why) place = []
