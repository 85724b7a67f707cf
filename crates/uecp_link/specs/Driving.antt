-- What `drive` and `resend` do over a reader and a writer; a reader has to believe it. Source: profile.
use Rattle.std.specs.Prelude.{◌≡◌, ℕ, ◌+◌, ◌-◌, ◌*◌, ◌<◌, ◌≤◌, zero, suc, List, [], ◌∷◌, ◌++◌, length, take, Option}
use Rattle.std.specs.Prelude.{Some, None, Result, Ok, Err}
use Rattle.std.specs.Option.{option_or, option_map}
use Rattle.std.specs.Io.KnownBytes.{Appends, IsAtEnd}
use Rattle.uecp_frame.specs.Findings.{Finding}
use Rattle.uecp_frame.specs.Beyond.{found_beyond}
use Rattle.uecp_elements.specs.declared.code.Code.{Code}
use Rattle.uecp_encoder.specs.Metered.{Metered}
use Rattle.uecp_encoder.specs.State.{raised}
use Rattle.uecp_link.specs.declared.driving.Driven.{Driven}
use Rattle.uecp_link.specs.declared.driving.DriveFault.{DriveFault}
use Rattle.uecp_link.specs.declared.driving.DriveFault.TheVariants.{WriteFailed, Closed, TriesSpent}
use Rattle.uecp_link.specs.Reading.{Reads, is_closed, write_failures}
use Rattle.uecp_link.specs.Server.{ServerState, acknowledges, heard, outgoing_bytes}

-- ---- What is sent.

-- So many copies of these bytes, one after another.
abbrev pub copies : List ℕ → ℕ → List ℕ
copies bytes zero = []
copies bytes (suc n) = copies bytes n ++ bytes

-- The bytes, or none.
abbrev pub bytes_or_none : Option (List ℕ) → List ℕ
bytes_or_none None = []
bytes_or_none (Some bytes) = bytes

-- The frame of the oldest message that waits as it is sent; no bytes where none waits.
abbrev pub frame_sent : ServerState → List ℕ
frame_sent s = bytes_or_none (outgoing_bytes s)

-- ---- What is heard.

-- The code of the first of these findings that acknowledges a message, if one does.
abbrev pub first_code : ServerState → List Finding → Option Code
first_code s [] = None
first_code s (Err fault ∷ fs) = first_code s fs
first_code s (Ok f ∷ fs) = option_or (option_map (λ reply. reply.1) (acknowledges s f)) (first_code s fs)

-- The code of the first acknowledgement among what some bytes find, after the server's open part.
abbrev pub acknowledged_in : ServerState → List ℕ → Option Code
acknowledged_in s bytes = first_code s (found_beyond s.part bytes)

-- Some bytes bring the acknowledgement, with this code, and it ends among the last 64 of them.
pub record IsAcknowledged (s : ServerState) (bytes : List ℕ) (code : Code) : Type 0 where
  pub comes : acknowledged_in s bytes ≡ Some code
  pub late : acknowledged_in s (take (length bytes - 64) bytes) ≡ None

-- ---- What a call leaves of the server.

-- The message is acknowledged: nothing is held, and one acknowledgement more is counted. Of the rest only the other
-- counts and the open part may have changed.
abbrev pub IsFreed : ServerState → ServerState → Type 0
IsFreed old new = new ≡ record old {
  held = [];
  counts =
      record new.counts { acknowledged = raised old.counts.acknowledged };
  part = new.part;
}

-- The message is outstanding under its counter as before, and no acknowledgement is counted. Of the rest only the other
-- counts and the open part may have changed.
abbrev pub StillWaits : ServerState → ServerState → Type 0
StillWaits old new = new ≡ record old {
  counts = record new.counts { acknowledged = old.counts.acknowledged };
  part = new.part;
}

-- ---- How a call ends.

-- From this state, with this read and this sent, in so many tries of those that were allowed. Acknowledged: the frame
-- was sent once a try. A failed write: the copies were sent up to the byte w, which lies in the copy of the last try.
-- The end of input: the frame was sent once a try. Tries spent: all were made.
abbrev pub Ends : ServerState → (read sent : List ℕ) → (unread : Option (List ℕ)) → (tries begun : ℕ)
    → Result Driven DriveFault → Type 0
Ends s read sent unread tries begun (Ok driven) =
    (begun ≡ driven.tries) × (1 ≤ begun) × (begun ≤ tries) × (sent ≡ copies (frame_sent s) begun)
    × IsAcknowledged s read driven.code
Ends s read sent unread tries begun (Err (WriteFailed w)) =
    (1 ≤ begun) × (begun ≤ tries) × (sent ≡ take w (copies (frame_sent s) tries))
    × (length (copies (frame_sent s) (begun - 1)) ≤ w) × (w < length (copies (frame_sent s) begun))
    × (acknowledged_in s read ≡ None)
Ends s read sent unread tries begun (Err Closed) =
    (1 ≤ begun) × (begun ≤ tries) × (sent ≡ copies (frame_sent s) begun) × (acknowledged_in s read ≡ None)
    × IsAtEnd unread
Ends s read sent unread tries begun (Err TriesSpent) =
    (begun ≡ tries) × (sent ≡ copies (frame_sent s) tries) × (acknowledged_in s read ≡ None)

-- How many reads were made in so many tries, and how many of them failed. A try that brings nothing makes all its
-- turns, or ends at a failed read; the try that is acknowledged or meets the end of input makes one read at least, and
-- none of them fails; the try whose write fails makes none.
abbrev pub ReadsMade : Result Driven DriveFault → (turns begun reads failed : ℕ) → Type 0
ReadsMade (Ok driven) turns begun reads failed = (failed < begun) × (failed + (begun - 1 - failed) * turns + 1 ≤ reads)
ReadsMade (Err (WriteFailed w)) turns begun reads failed =
    (failed < begun) × (failed + (begun - 1 - failed) * turns ≤ reads)
ReadsMade (Err Closed) turns begun reads failed = (failed < begun) × (failed + (begun - 1 - failed) * turns + 1 ≤ reads)
ReadsMade (Err TriesSpent) turns begun reads failed = (failed ≤ begun) × (failed + (begun - failed) * turns ≤ reads)

-- A call from one state of the server to another, over a reader and a writer before and after it: what was read and
-- sent, in how many tries and reads, and how it ended. But for `Closed`, no read brought nothing; there one did.
pub record Drives {R W : Type 0} (remaining : R → Option (List ℕ)) (contents : W → Option (List ℕ))
    (old new : ServerState) (reader reader' : Metered R) (writer writer' : Metered W) (tries turns : ℕ)
    (result : Result Driven DriveFault) : Type 0 where
  pub read : List ℕ
  pub sent : List ℕ
  pub begun : ℕ
  pub reads : ℕ
  pub failed : ℕ
  pub reading : Reads remaining reader reader' read reads failed (is_closed result)
  pub appended : Appends (contents writer.device) (contents writer'.device) sent
  pub state : new ≡ heard old read
  pub ends : Ends old read sent (remaining reader'.device) tries begun result
  pub made : ReadsMade result turns begun reads failed
  pub few_reads : reads ≤ begun * turns
  pub at_most : length read ≤ 64 * (tries * turns)
  pub write_failures_are : writer'.failures ≡ write_failures result writer.failures
