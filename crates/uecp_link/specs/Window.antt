-- What `send_window` does over a reader and a writer; a reader has to believe it, but for `Gathers` and `Gathered`.
-- Source: profile.
use Rattle.std.specs.Prelude.{◌≡◌, ◌≢◌, ℕ, ◌+◌, ◌-◌, ◌<◌, ◌≤◌, ◌==◌, ◌⊎◌, List, [], ◌++◌, length, take, filter_map}
use Rattle.std.specs.Prelude.{false, Option, Some, None, Result, Ok, Err}
use Rattle.std.specs.List.{concat}
use Rattle.std.specs.Map.{lookup}
use Rattle.std.specs.Io.KnownBytes.{Appends, IsAtEnd}
use Rattle.uecp_frame.specs.Beyond.{found_beyond}
use Rattle.uecp_elements.specs.declared.code.Code.{Code}
use Rattle.uecp_encoder.specs.Metered.{Metered}
use Rattle.uecp_link.specs.declared.heard.HeardWhat.{HeardWhat}
use Rattle.uecp_link.specs.declared.heard.HeardWhat.TheVariants as what
use Rattle.uecp_link.specs.declared.driving.DriveFault.{DriveFault}
use Rattle.uecp_link.specs.declared.driving.DriveFault.TheVariants.{WriteFailed, Closed, TriesSpent}
use Rattle.uecp_link.specs.declared.window.Windowed.{Windowed}
use Rattle.uecp_link.specs.declared.window.Windowed.TheVariants.{Idle, Spent}
use Rattle.uecp_link.specs.Reading.{Reads, is_closed, write_failures}
use Rattle.uecp_link.specs.Server.{ServerState, waiting, heard, all_heard_as, frames_waiting}

-- The frames of all messages that wait, one after another, the oldest first.
abbrev pub window_sent : ServerState → List ℕ
window_sent s = concat (frames_waiting s)

-- The counter and the code in what a server says, where that is an acknowledgement.
abbrev pub mark_in : HeardWhat → Option (ℕ × Code)
mark_in (what.Acknowledged counter code) = Some (counter, code)
mark_in _ = None

-- The counter and the code of each message that some bytes acknowledge, in order.
abbrev pub marks_in : ServerState → List ℕ → List (ℕ × Code)
marks_in s bytes = filter_map mark_in (all_heard_as s (found_beyond s.part bytes))

-- The code of the first mark with this counter; none where there is none.
abbrev pub code_under : ℕ → List (ℕ × Code) → Option Code
code_under counter marks = lookup (λ k. k == counter) marks

-- How the reads of a try ended, from one state of the server to another. No message waits: so it is, and it was not so
-- 64 bytes before. Spent: messages wait, and one read failed, or none and all turns were made. Closed: messages wait,
-- and the input is at its end.
abbrev pub ReadsEnd : (old new : ServerState) → (read : List ℕ) → (unread : Option (List ℕ)) → (turns reads failed : ℕ)
    → Result Windowed DriveFault → Type 0
ReadsEnd old new read unread turns reads failed (Ok Idle) =
    (new.held ≡ []) × ((heard old (take (length read - 64) read)).held ≢ []) × (failed ≡ 0) × (1 ≤ reads)
ReadsEnd old new read unread turns reads failed (Ok Spent) =
    (new.held ≢ []) × (((failed ≡ 1) × (1 ≤ reads)) ⊎ ((failed ≡ 0) × (reads ≡ turns)))
ReadsEnd old new read unread turns reads failed (Err Closed) =
    (new.held ≢ []) × (failed ≡ 0) × (1 ≤ reads) × IsAtEnd unread
ReadsEnd old new read unread turns reads failed (Err (WriteFailed w)) = ⊥
ReadsEnd old new read unread turns reads failed (Err TriesSpent) = ⊥

-- How a try ended. A write failed: of the frames that waited the first w bytes were sent, not all, and no read was
-- made. Else they were sent whole, and the reads ended.
abbrev pub WindowEnds : (old new : ServerState) → (read sent : List ℕ) → (unread : Option (List ℕ))
    → (turns reads failed : ℕ) → Result Windowed DriveFault → Type 0
WindowEnds old new read sent unread turns reads failed (Err (WriteFailed w)) =
    (sent ≡ take w (window_sent old)) × (w < length (window_sent old)) × (read ≡ []) × (reads ≡ 0) × (failed ≡ 0)
WindowEnds old new read sent unread turns reads failed (Err Closed) =
    (sent ≡ window_sent old) × ReadsEnd old new read unread turns reads failed (Err Closed)
WindowEnds old new read sent unread turns reads failed (Err TriesSpent) = ⊥
WindowEnds old new read sent unread turns reads failed (Ok windowed) =
    (sent ≡ window_sent old) × ReadsEnd old new read unread turns reads failed (Ok windowed)

-- A try from one state of the server to another, over a reader and a writer before and after it: what was sent and
-- read, by how many reads, how it ended, and that to the marks those were added which the read bytes bring. But for
-- `Closed`, no read brought nothing; there one did.
pub record Windows {R W : Type 0} (remaining : R → Option (List ℕ)) (contents : W → Option (List ℕ))
    (old new : ServerState) (reader reader' : Metered R) (writer writer' : Metered W) (marks marks' : List (ℕ × Code))
    (turns : ℕ) (result : Result Windowed DriveFault) : Type 0 where
  pub read : List ℕ
  pub sent : List ℕ
  pub reads : ℕ
  pub failed : ℕ
  pub reading : Reads remaining reader reader' read reads failed (is_closed result)
  pub appended : Appends (contents writer.device) (contents writer'.device) sent
  pub state : new ≡ heard old read
  pub marked : marks' ≡ marks ++ marks_in old read
  pub ends : WindowEnds old new read sent (remaining reader'.device) turns reads failed result
  pub few_reads : reads ≤ turns
  pub write_failures : writer'.failures ≡ write_failures result writer.failures

-- The reads of a try (private).
pub record Gathers {R : Type 0} (remaining : R → Option (List ℕ)) (old new : ServerState) (reader reader' : Metered R)
    (marks marks' : List (ℕ × Code)) (turns : ℕ) (result : Result Windowed DriveFault) : Type 0 where
  pub read : List ℕ
  pub reads : ℕ
  pub failed : ℕ
  pub reading : Reads remaining reader reader' read reads failed (is_closed result)
  pub state : new ≡ heard old read
  pub marked : marks' ≡ marks ++ marks_in old read
  pub ends : ReadsEnd old new read (remaining reader'.device) turns reads failed result
  pub few_reads : reads ≤ turns

-- So many reads, none of which failed or brought nothing, after which messages wait (private).
pub record Gathered {R : Type 0} (remaining : R → Option (List ℕ)) (old new : ServerState) (reader reader' : Metered R)
    (marks marks' : List (ℕ × Code)) (reads : ℕ) : Type 0 where
  pub read : List ℕ
  pub reading : Reads remaining reader reader' read reads 0 false
  pub state : new ≡ heard old read
  pub marked : marks' ≡ marks ++ marks_in old read
  pub busy : new.held ≢ []
  pub room : length marks' + length (waiting new) ≡ length marks + length (waiting old)

-- A piece is heard up to its rest, which brings what is left of the marks; each mark more is one message fewer that
-- waits (private).
pub record Hearing (old new : ServerState) (piece rest : List ℕ) (marks marks' : List (ℕ × Code)) : Type 0 where
  pub state : heard new rest ≡ heard old piece
  pub marked : marks' ++ marks_in new rest ≡ marks ++ marks_in old piece
  pub room : length marks' + length (waiting new) ≡ length marks + length (waiting old)
