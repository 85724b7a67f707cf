-- What is kept of an encoder, and what a crash may leave of it; a reader has to believe it. Source: profile.
use Rattle.std.specs.Prelude.{◌≡◌, ℕ, List}
use Rattle.std.specs.Io.{StartsWith}
use Rattle.uecp_frame.specs.Findings.{Closed}
use Rattle.uecp_elements.specs.declared.code.Code.{Code}
use Rattle.uecp_encoder.specs.Target.{Step}
use Rattle.uecp_encoder.specs.State.{EncoderState, no_counts, fed}
use Rattle.uecp_encoder.specs.Answering.{answers}

-- what is kept of an encoder: its target's value, and the kept pairs of counter and code with the newest first
pub record Kept (V : Type 0) : Type 0 where
  pub value : V
  pub ring : List (ℕ × Code)

-- what is to be kept of this encoder: neither its counts, nor what of the line is open
abbrev pub kept_of : {V : Type 0} → EncoderState V → Kept V
kept_of e = record { value = e.value; ring = e.ring }

-- an encoder at this address that goes on from what was kept: nothing is counted, and nothing is open
abbrev pub going_on : {V : Type 0} → ℕ → Kept V → EncoderState V
going_on address kept = record {
  address = address;
  value = kept.value;
  ring = kept.ring;
  counts = no_counts;
  part = Closed;
}

-- Whatever a crash may leave is what is to be kept of this encoder.
abbrev pub Settled : {V : Type 0} → (leaves : Kept V → Type 0) → EncoderState V → Type 0
Settled {V} leaves e = (left : Kept V) → leaves left → left ≡ kept_of e

-- This is what is to be kept of the encoder once it has taken some first bytes of s; and every byte that was sent is of
-- the replies to those.
pub record Outlives {V : Type 0} (step : Step V) (e : EncoderState V) (s sent : List ℕ) (left : Kept V) : Type 0 where
  pub taken : List ℕ
  pub beginning : StartsWith s taken
  pub state : left ≡ kept_of (fed step e taken)
  pub replied : StartsWith (answers step e taken) sent
