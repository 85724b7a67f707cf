-- A line whose server is replaced by a new one, which joins: at once, and without loss; a reader has to believe it.
-- Source: profile.
use Rattle.std.specs.Prelude.{◌≡◌, ℕ, [], length}
use Rattle.uecp_frame.specs.Findings.{Closed}
use Rattle.uecp_encoder.specs.Target.{Step}
use Rattle.uecp_encoder.specs.State.{EncoderState, fed}
use Rattle.uecp_encoder.specs.Answering.{answers}
use Rattle.uecp_link.specs.Server.{waiting}
use Rattle.uecp_link.specs.Joining.{pass_sent, BringsBoth, HasJoinedWith}
use Rattle.uecp_link.specs.Holds.{LineState, line_from}

-- An empty message leaves the target as it is.
abbrev pub EmptyChangesNothing : {V : Type 0} → Step V → Type 0
EmptyChangesNothing {V} step = (v : V) → (step v []).0 ≡ v

-- The encoder as a new connection finds it: a segment that has not ended is forgotten.
abbrev pub with_nothing_open : {V : Type 0} → EncoderState V → EncoderState V
with_nothing_open e = record e { part = Closed }

-- The server of a line has died, and a new one has joined over a new connection. What waited at the old one is given
-- up: so many messages, of which the new one knows nothing. The encoder has got one pass, whole, and nothing else; its
-- replies are those by which `join` answers `Joined`. It has its value as it was, keeps the replies to FF, FE .. 81
-- alone, expects 01, and has nothing open. The line begins from there, with a new server: nothing is sent.
pub record Replaces {V : Type 0} (step : Step V) (old : LineState V) (given_up : ℕ) (new : LineState V) : Type 0 where
  pub given_up_is : given_up ≡ length (waiting old.server)
  pub begins : new ≡ line_from (fed step (with_nothing_open old.encoder) (pass_sent old.encoder.address))
  pub replied : BringsBoth old.encoder.address (answers step (with_nothing_open old.encoder)
      (pass_sent old.encoder.address))
  pub joined : HasJoinedWith new.encoder old.encoder.value
  pub address : new.encoder.address ≡ old.encoder.address
