-- What damage does to a server; a reader has to believe it. Source: profile.
use Rattle.std.specs.Prelude.{◌≡◌, ℕ, ◌+◌, ◌-◌, ◌^◌, ◌<◌, min, false, List, length}
use Rattle.uecp_frame.specs.Findings.{has_frame}
use Rattle.uecp_frame.specs.Beyond.{found_beyond, open_beyond}
use Rattle.uecp_link.specs.Server.{ServerState, heard}

-- Some bytes leave a server its address, its last counter, the messages that it holds and its counts but that of the
-- dropped segments, which rises by one for each of their findings.
pub record IsUnmoved (s : ServerState) (bytes : List ℕ) : Type 0 where
  pub state : heard s bytes ≡ record s {
    counts = record s.counts { dropped = (heard s bytes).counts.dropped };
    part = open_beyond s.part bytes;
  }
  pub dropped : s.counts.dropped < 2 ^ 64 → (heard s bytes).counts.dropped
      ≡ min (s.counts.dropped + length (found_beyond s.part bytes)) (2 ^ 64 - 1)

-- ---- Law.
-- Whatever is open, bytes in which no frame is found do so.
abbrev pub DamageChangesNothing : Type 0
DamageChangesNothing = (s : ServerState) (bytes : List ℕ) → has_frame (found_beyond s.part bytes) ≡ false
    → IsUnmoved s bytes
