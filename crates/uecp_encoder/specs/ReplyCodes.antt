-- The codes that an encoder replies with. Source: profile.
use Rattle.std.specs.Prelude.{ℕ, ◌==◌, Bool, true, false, List, [], ◌∷◌, Option, Some, None, Ok, Err, if◌then◌else◌}
use Rattle.std.specs.List.{cons_option}
use Rattle.uecp_frame.specs.declared.frame.Frame.{Frame}
use Rattle.uecp_frame.specs.Address.{reaches}
use Rattle.uecp_frame.specs.Findings.{Finding}
use Rattle.uecp_frame.specs.Beyond.{found_beyond}
use Rattle.uecp_elements.specs.declared.code.Code.{Code}
use Rattle.reply_ring.specs.Ring.{kept_code}
use Rattle.uecp_encoder.specs.Target.{Step}
use Rattle.uecp_encoder.specs.State.{EncoderState, is_next, after_finding}

-- Whether the encoder's reply to a numbered frame is fresh, and its code, by the code that is kept for its counter;
-- none where it is neither kept nor the next.
abbrev pub coded : {V : Type 0} → Step V → EncoderState V → Frame → Option Code → Option (Bool × Code)
coded step e f (Some code) = Some (false, code)
coded step e f None = if is_next e.ring f.counter then Some (true, (step e.value f.message).1) else None

-- The encoder's reply to a finding, if it gives one: to a frame that reaches it and is numbered, and is a repeat or the
-- next.
abbrev pub reply_to : {V : Type 0} → Step V → EncoderState V → Finding → Option (Bool × Code)
reply_to step e (Err fault) = None
reply_to step e (Ok f) =
    if reaches f.address e.address then (if f.counter
    == 0 then None else coded step e f (kept_code e.ring f.counter)) else None

-- The encoder's replies to findings, in order.
abbrev pub replies_to : {V : Type 0} → Step V → EncoderState V → List Finding → List (Bool × Code)
replies_to step e [] = []
replies_to step e (f ∷ fs) = cons_option (reply_to step e f) (replies_to step (after_finding step e f) fs)

-- The encoder's replies to what some bytes find, in order.
abbrev pub replies : {V : Type 0} → Step V → EncoderState V → List ℕ → List (Bool × Code)
replies step e bytes = replies_to step e (found_beyond e.part bytes)
