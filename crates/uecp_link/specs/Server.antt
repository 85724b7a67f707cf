-- The server's end as one value, and what findings do to it; a reader has to believe it. Source: RDS Forum SPB 490,
-- two-way mode; profile for what is marked so.
use Rattle.std.specs.Prelude.{◌≡◌, ℕ, zero, suc, ◌<◌, ◌==◌, ◌&&◌, ◌||◌, Bool, false, List, [], ◌∷◌, ◌++◌, length, map}
use Rattle.std.specs.Prelude.{take, slice_get, Option, Some, None, Ok, Err, if◌then◌else◌}
use Rattle.std.specs.List.{list_any}
use Rattle.std.specs.Option.{option_map_or, option_map}
use Rattle.uecp_frame.specs.Frame.{spelling}
use Rattle.uecp_link.specs.Counters.{next_counter}
use Rattle.uecp_link.specs.Frames.{frame_under}
use Rattle.uecp_frame.specs.declared.frame.Frame.{Frame}
use Rattle.uecp_frame.specs.Findings.{Finding, OpenPart, Closed}
use Rattle.uecp_frame.specs.Beyond.{found_beyond, open_beyond}
use Rattle.uecp_elements.specs.declared.code.Code.{Code}
use Rattle.uecp_elements.specs.Codes.{code_of_byte}
use Rattle.uecp_encoder.specs.State.{raised}
use Rattle.uecp_link.specs.declared.counts.ServerCounts.{ServerCounts}
use Rattle.uecp_link.specs.declared.heard.HeardWhat.{HeardWhat}
use Rattle.uecp_link.specs.declared.heard.HeardWhat.TheVariants as what
use Rattle.uecp_link.specs.declared.heard.Heard.{Heard}

-- A message that a server holds: its counter, its bytes, and whether it is marked, which it is once its reply has come.
-- (profile)
pub record Held : Type 0 where
  pub counter : ℕ
  pub message : List ℕ
  pub marked : Bool

-- A server is five things: the address of its encoder, the counter of its last message (0 before the first), the
-- messages that it holds, the oldest first, the counts of what it has heard, and the part of the stream that is open.
-- (profile)
pub record ServerState : Type 0 where
  pub address : ℕ
  pub last : ℕ
  pub held : List Held
  pub counts : ServerCounts
  pub part : OpenPart

-- Nothing is counted. (profile)
abbrev pub nothing_counted : ServerCounts
nothing_counted = record { acknowledged = 0; stray = 0; dropped = 0 }

-- A new server has sent nothing, holds nothing, has heard nothing and has nothing open. (profile)
abbrev pub idle_at : ℕ → ServerState
idle_at address = record { address = address; last = 0; held = []; counts = nothing_counted; part = Closed }

-- A server that starts again from what it kept: its open part and its counts are new, and nothing else changes.
-- (profile)
abbrev pub restarted_server : ServerState → ServerState
restarted_server s = record s { counts = nothing_counted; part = Closed }

-- ---- The messages that are held.

-- A message that is submitted is held, the newest, under the next counter and not marked. (profile)
abbrev pub submitted : ServerState → List ℕ → ServerState
submitted s m = record s {
  last = next_counter s.last;
  held = s.held ++ record { counter = next_counter s.last; message = m; marked = false } ∷ [];
}

-- Of the messages that are held, those that are not marked, in the same order, each with its counter.
abbrev pub waiting_among : List Held → List (ℕ × List ℕ)
waiting_among [] = []
waiting_among (h ∷ hs) = if h.marked then waiting_among hs else (h.counter, h.message) ∷ waiting_among hs

-- The messages that wait for a reply at a server, the oldest first, each with its counter.
abbrev pub waiting : ServerState → List (ℕ × List ℕ)
waiting s = waiting_among s.held

-- Whether one of these messages has this counter.
abbrev pub waits_for : List (ℕ × List ℕ) → ℕ → Bool
waits_for ws counter = list_any (λ w. w.0 == counter) ws

-- A message, marked where it has this counter, else as it was.
abbrev pub marked_for : ℕ → Held → Held
marked_for counter h = record h { marked = h.counter == counter || h.marked }

-- The message under a counter is marked; the others are as they were. (profile)
abbrev pub marked_at : ℕ → List Held → List Held
marked_at counter hs = map (marked_for counter) hs

-- Whether the message at a place among these is marked.
abbrev pub is_marked : List Held → ℕ → Bool
is_marked hs place = option_map_or (λ h. h.marked) (slice_get hs place) false

-- Marked messages are let go from the oldest on, up to the first that is not marked: a marked one stays as long as an
-- older one waits. (profile)
abbrev pub freed_of : List Held → List Held
freed_of [] = []
freed_of (h ∷ hs) = if h.marked then freed_of hs else h ∷ hs

-- ---- What acknowledges.

-- The counter and the code that a reply's message gives: it is 18, a code of the table and the counter, three bytes in
-- all. (profile, layout of element 18)
abbrev pub reply_in : List ℕ → Option (ℕ × Code)
reply_in (a ∷ b ∷ c ∷ []) = if a == 0x18 then option_map (λ code. (c, code)) (code_of_byte b) else None
reply_in _ = None

-- The counter and the code of a reply of the encoder at an address: a frame that carries this very address and counter
-- 00, and whose message gives them. No other frame is one. (profile)
abbrev pub reply_from : (address : ℕ) → Frame → Option (ℕ × Code)
reply_from address f = if f.address == address && f.counter == 0 then reply_in f.message else None

-- A reply, where one of these messages has its counter.
abbrev pub reply_to_one : List (ℕ × List ℕ) → Option (ℕ × Code) → Option (ℕ × Code)
reply_to_one ws None = None
reply_to_one ws (Some reply) = if waits_for ws reply.0 then Some reply else None

-- The counter and the code with which a frame acknowledges: it is a reply of the server's encoder, for the counter of a
-- message that waits. Every other frame acknowledges nothing. (profile)
abbrev pub acknowledges : ServerState → Frame → Option (ℕ × Code)
acknowledges s f = reply_to_one (waiting s) (reply_from s.address f)

-- Any code acknowledges, a refusal too: the message is marked, and what may be let go is; what does not acknowledge is
-- counted as stray and changes nothing else. (profile)
abbrev pub freed : ServerState → Option (ℕ × Code) → ServerState
freed s None = record s { counts = record s.counts { stray = raised s.counts.stray } }
freed s (Some reply) = record s {
  held = freed_of (marked_at reply.0 s.held);
  counts = record s.counts { acknowledged = raised s.counts.acknowledged };
}

-- Counted so many times: `raised` so many times.
abbrev pub raised_by : ℕ → ℕ → ℕ
raised_by zero count = count
raised_by (suc n) count = raised_by n (raised count)

-- The server after one finding: a fault is counted as dropped and changes nothing else, a frame marks a message where
-- it acknowledges. (profile)
abbrev pub heard_finding : ServerState → Finding → ServerState
heard_finding s (Err fault) = record s { counts = record s.counts { dropped = raised s.counts.dropped } }
heard_finding s (Ok f) = freed s (acknowledges s f)

-- The server after findings, one after another.
abbrev pub heard_findings : ServerState → List Finding → ServerState
heard_findings s [] = s
heard_findings s (f ∷ fs) = heard_findings (heard_finding s f) fs

-- The server after some bytes: what they find was taken, and what they leave open is open.
abbrev pub heard : ServerState → List ℕ → ServerState
heard s bytes = heard_findings (record s { part = open_beyond s.part bytes }) (found_beyond s.part bytes)

-- ---- What a server says.

-- What it says to a frame, by the counter and the code with which that acknowledges: acknowledged with these, or stray.
-- (profile)
abbrev pub told : Option (ℕ × Code) → HeardWhat
told None = what.Stray
told (Some reply) = what.Acknowledged reply.0 reply.1

-- What it says to one finding: a fault was dropped, a frame acknowledges or is stray. (profile)
abbrev pub heard_as : ServerState → Finding → HeardWhat
heard_as s (Err fault) = what.Dropped fault
heard_as s (Ok f) = told (acknowledges s f)

-- What it says to findings, one after another.
abbrev pub all_heard_as : ServerState → List Finding → List HeardWhat
all_heard_as s [] = []
all_heard_as s (f ∷ fs) = heard_as s f ∷ all_heard_as (heard_finding s f) fs

-- What one call of `hear` says, as a list of one, or of none.
abbrev pub whats_of : HeardWhat → List HeardWhat
whats_of what.Nothing = []
whats_of w = w ∷ []

-- A call of `hear` uses the bytes of the piece up to the one at which the first finding is judged, or all where there
-- is none, and answers to that finding.
pub record HearsPiece (old : ServerState) (piece : List ℕ) (answer : Heard) : Type 0 where
  pub said : all_heard_as old (found_beyond old.part (take answer.used piece)) ≡ whats_of answer.what
  pub first : (k : ℕ) → k < answer.used → found_beyond old.part (take k piece) ≡ []
  pub all : answer.what ≡ what.Nothing → answer.used ≡ length piece

-- ---- What a server lends.

-- The frames of the messages that wait as they are sent, the oldest first, each the same each time. (SPB 490, frame
-- format)
abbrev pub frames_waiting : ServerState → List (List ℕ)
frames_waiting s = map (λ w. spelling (frame_under s.address w)) (waiting s)

-- The counters of the messages that wait, the oldest first.
abbrev pub counters_waiting : ServerState → List ℕ
counters_waiting s = map (λ w. w.0) (waiting s)

-- The frame of the oldest message that waits; none where none waits.
abbrev pub outgoing_bytes : ServerState → Option (List ℕ)
outgoing_bytes s = slice_get (frames_waiting s) 0
