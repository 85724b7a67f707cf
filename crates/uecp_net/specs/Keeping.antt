-- What is kept of a server, and what a crash may leave of it; a reader has to believe it. Source: profile.
use Rattle.std.specs.Prelude.{◌≡◌, ℕ, ◌+◌, Bool, List}
use Rattle.uecp_frame.specs.Findings.{Closed}
use Rattle.uecp_link.specs.Server.{ServerState, Held, nothing_counted}
use Rattle.uecp_net.specs.declared.saved.keep.Progress.{Progress}

-- What is kept of a server: the counter of its last message, the messages that it holds, the oldest first, how many
-- messages of its input were taken since its file was made, and whether its encoder was joined.
pub record KeptServer : Type 0 where
  pub last : ℕ
  pub held : List Held
  pub taken : ℕ
  pub joined : Bool

-- what is to be kept of this server, which has come so far: neither its counts, nor what of the line is open
abbrev pub kept_of : Progress → ServerState → KeptServer
kept_of progress s = record { last = s.last; held = s.held; taken = progress.taken; joined = progress.joined }

-- a server for the encoder at this address that goes on from what was kept: nothing is counted, and nothing is open
abbrev pub going_on : (address : ℕ) → KeptServer → ServerState
going_on address kept = record {
  address = address;
  last = kept.last;
  held = kept.held;
  counts = nothing_counted;
  part = Closed;
}

-- Whatever a crash may leave is what is to be kept of this server.
abbrev pub IsKept : (leaves : KeptServer → Type 0) → Progress → ServerState → Type 0
IsKept leaves progress s = (left : KeptServer) → leaves left → left ≡ kept_of progress s

-- The progress of a server that took so many messages more from its user.
abbrev pub taking : Progress → ℕ → Progress
taking progress messages = record progress { taken = progress.taken + messages }
