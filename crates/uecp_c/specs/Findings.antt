-- The first finding of bytes, as it is told (profile).
use Rattle.std.specs.Prelude.{◌≡◌, ℕ, ◌+◌, List, ◌++◌, length, take, drop, Option, Some, None}
use Rattle.uecp_frame.specs.declared.fed.Fed.{Fed}
use Rattle.uecp_frame.specs.Findings.{OpenPart, Closed, found, open_bytes}
use Rattle.uecp_frame.specs.Feeding.{Feeds, findings_of}
use Rattle.c_values.specs.declared.finding.Finding.{Finding}
use Rattle.c_values.specs.Findings.{shown}

-- How many bytes belong to a segment that has not ended: its FE and those behind it.
abbrev pub segment_length : Option (List ℕ) → ℕ
segment_length None = 0
segment_length (Some x) = 1 + length x

-- How many bytes at the end belong to a segment that has not ended (SPB 490, frame format).
abbrev pub open_length : List ℕ → ℕ
open_length s = segment_length (open_bytes s)

-- The first finding is what a deframer that hears the bytes first answers, and that is told. Done with are the bytes up
-- to and with the one at which it is judged, or all where nothing is found, but for a segment that these leave open
-- (profile).
pub record FindsFirst (bytes : List ℕ) (old new : Finding) (done : ℕ) : Type 0 where
  pub fed : Fed
  pub left : OpenPart
  pub feeds : Feeds Closed bytes fed left
  pub told : new ≡ shown old fed.found
  pub kept : done + open_length (take fed.used bytes) ≡ fed.used
  pub left_finds : (more : List ℕ) → found (bytes ++ more) ≡ findings_of fed.found ++ found (drop done bytes ++ more)
