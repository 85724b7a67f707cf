-- An encoder as one value, and what findings do to it. Source: profile.
use Rattle.std.specs.Prelude.{ℕ, ◌+◌, ◌-◌, ◌%◌, ◌^◌, ◌==◌, min, Bool, List, [], ◌∷◌, Option, Some, None, Ok, Err}
use Rattle.std.specs.Prelude.{if◌then◌else◌}
use Rattle.uecp_frame.specs.declared.frame.Frame.{Frame}
use Rattle.uecp_frame.specs.Address.{reaches}
use Rattle.uecp_frame.specs.Findings.{Finding, OpenPart, Closed}
use Rattle.uecp_frame.specs.Beyond.{found_beyond, open_beyond}
use Rattle.uecp_elements.specs.declared.code.Code.{Code}
use Rattle.reply_ring.specs.Ring.{kept_code, newest, keep}
use Rattle.uecp_encoder.specs.declared.counts.Counts.{Counts}
use Rattle.uecp_encoder.specs.Target.{Step}

-- its own address, its target's value, the kept pairs of counter and code with the newest first, its counts, and the
-- part of the stream that is open
pub record EncoderState (V : Type 0) : Type 0 where
  pub address : ℕ
  pub value : V
  pub ring : List (ℕ × Code)
  pub counts : Counts
  pub part : OpenPart

-- nothing counted
abbrev pub no_counts : Counts
no_counts = record { fresh = 0; repeats = 0; not_for_me = 0; unnumbered = 0; dropped = 0 }

-- a new encoder: nothing kept, nothing counted, nothing open
abbrev pub opening : {V : Type 0} → ℕ → V → EncoderState V
opening address value = record { address = address; value = value; ring = []; counts = no_counts; part = Closed }

-- an encoder that starts again from what it kept: its open part and its counts are new, and nothing else changes
abbrev pub restarted : {V : Type 0} → EncoderState V → EncoderState V
restarted e = record e { counts = no_counts; part = Closed }

-- a count rises by one, and stays at its greatest value
abbrev pub raised : ℕ → ℕ
raised n = min (n + 1) (2 ^ 64 - 1)

-- the counter after the last message's, FF being followed by 01, and 01 where there was no message
abbrev pub next_after : (last : Option ℕ) → ℕ
next_after None = 1
next_after (Some last) = 1 + last % 255

-- whether a counter is the next, by the newest of the kept ones
abbrev pub is_next : List (ℕ × Code) → ℕ → Bool
is_next ring counter = counter == next_after (newest ring)

-- the encoder once it has applied a frame's message: its code is kept for the frame's counter
abbrev pub applied : {V : Type 0} → Step V → EncoderState V → Frame → EncoderState V
applied step e f = record {
  address = e.address;
  value = (step e.value f.message).0;
  ring = keep e.ring f.counter (step e.value f.message).1;
  counts = record e.counts { fresh = raised e.counts.fresh };
  part = e.part;
}

-- A numbered frame for the encoder, by the code that is kept for its counter: a repeat changes nothing but a count;
-- else the message is applied where its counter is the next, and nothing changes at all where it is not.
abbrev pub numbered : {V : Type 0} → Step V → EncoderState V → Frame → Option Code → EncoderState V
numbered step e f (Some code) = record e { counts = record e.counts { repeats = raised e.counts.repeats } }
numbered step e f None = if is_next e.ring f.counter then applied step e f else e

-- The encoder after one finding, judged in this order: a fault is counted, and so is a frame whose address does not
-- reach the encoder, and one with counter 00; any other frame is a numbered one for it. None of this touches the open
-- part.
abbrev pub after_finding : {V : Type 0} → Step V → EncoderState V → Finding → EncoderState V
after_finding step e (Err fault) = record e { counts = record e.counts { dropped = raised e.counts.dropped } }
after_finding step e (Ok f) =
    if reaches f.address e.address
    then (if f.counter == 0
    then record e { counts = record e.counts { unnumbered = raised e.counts.unnumbered } }
    else numbered step e f (kept_code e.ring f.counter))
    else record e { counts = record e.counts { not_for_me = raised e.counts.not_for_me } }

-- the encoder after findings, one after another
abbrev pub after_findings : {V : Type 0} → Step V → EncoderState V → List Finding → EncoderState V
after_findings step e [] = e
after_findings step e (f ∷ fs) = after_findings step (after_finding step e f) fs

-- The encoder after these bytes: what they find was taken, and what they leave open is open.
abbrev pub fed : {V : Type 0} → Step V → EncoderState V → List ℕ → EncoderState V
fed step e bytes = after_findings step (record e { part = open_beyond e.part bytes }) (found_beyond e.part bytes)
