-- Whatever an encoder finds, there is an event that tells of it.
use Rattle.std.proofs.Common.{◌≡◌, ℕ, ◌==◌, Bool, true, false, cond, List, Option, Some, None, Ok, Err, refl, sym}
use Rattle.uecp_elements.specs.declared.code.Code.{Code}
use Rattle.reply_ring.specs.Ring.{kept_code}
use Rattle.uecp_frame.specs.declared.frame.Frame.{Frame}
use Rattle.uecp_frame.specs.Address.{reaches}
use Rattle.uecp_frame.specs.Frame.{spelling}
use Rattle.uecp_frame.specs.Findings.{Finding}
use Rattle.uecp_frame.specs.declared.fed.Found.TheVariants as found
use Rattle.uecp_encoder.specs.declared.listener.Event.{Event}
use Rattle.uecp_encoder.specs.declared.listener.Answered.TheVariants as answered
use Rattle.uecp_encoder.specs.declared.listener.Answered.TheVariants.{New, Repeat}
use Rattle.uecp_encoder.specs.Telling.{Tells}
use Rattle.uecp_encoder.specs.Target.{Step}
use Rattle.uecp_encoder.specs.State.{EncoderState, is_next}
use Rattle.uecp_encoder.specs.Answering.{Response, Replied, NotForMe, Unnumbered, NotNext, Dropped, reply_of, replied}
use Rattle.uecp_encoder.specs.Answering.{response_to}

-- To a frame this reply was given.
record HasCode (address : ℕ) (f : Frame) (bytes : List ℕ) : Type 0 where
  pub code : Code
  pub says : bytes ≡ spelling (reply_of address f.counter code)

module _ {V : Type 0} (step : Step V) (e : EncoderState V) (f : Frame) (bytes : List ℕ) (fresh : Bool) where
  next_code : (next : Bool) →
      cond next (Replied (spelling (reply_of e.address f.counter (step e.value f.message).1)) true) NotNext
      ≡ Replied bytes fresh → HasCode e.address f bytes
  next_code true is = record {
    code = (step e.value f.message).1;
    says = sym (let q : spelling (reply_of e.address f.counter (step e.value f.message).1) ≡ bytes = cc in q);
  }
  next_code false is = absurd (cc)

  frame_code : (r z : Bool) (k : Option Code) →
      cond r (cond z Unnumbered (replied step e f k)) NotForMe ≡ Replied bytes fresh →
      HasCode e.address f bytes
  frame_code true true k is = absurd (cc)
  frame_code true false (Some c) is = record {
    code = c;
    says = sym (let q : spelling (reply_of e.address f.counter c) ≡ bytes = cc in q);
  }
  frame_code true false None is = next_code (is_next e.ring f.counter) is
  frame_code false z k is = absurd (cc)

  reply_code : response_to step e (Ok f) ≡ Replied bytes fresh → HasCode e.address f bytes
  reply_code is = frame_code (reaches f.address e.address) (f.counter == 0) (kept_code e.ring f.counter) is

module _ {V : Type 0} (step : Step V) (e : EncoderState V) where
  frame_event : (f : Frame) (r : Response) → response_to step e (Ok f) ≡ r
      → (event : Event) × Tells step e (Ok f) event
  frame_event f (Replied bytes true) is =
      let has = reply_code step e f bytes true is in (
        record { found = found.Frame f; answer = New has.code (record { items = bytes }) },
        record { found = refl; answer = is; code = (f, refl, has.says) },
      )
  frame_event f (Replied bytes false) is =
      let has = reply_code step e f bytes false is in (
        record { found = found.Frame f; answer = Repeat has.code (record { items = bytes }) },
        record { found = refl; answer = is; code = (f, refl, has.says) },
      )
  frame_event f NotForMe is =
      (record { found = found.Frame f; answer = answered.NotForMe }, record { found = refl; answer = is; code = tt })
  frame_event f Unnumbered is =
      (record { found = found.Frame f; answer = answered.Unnumbered }, record { found = refl; answer = is; code = tt })
  frame_event f NotNext is =
      (record { found = found.Frame f; answer = answered.NotNext }, record { found = refl; answer = is; code = tt })
  frame_event f (Dropped fault) is = (
    record { found = found.Frame f; answer = answered.Dropped fault },
    record {
      found = refl;
      answer = is;
      code = tt;
    },
  )

  pub event_for : (x : Finding) → (event : Event) × Tells step e x event
  event_for (Err fault) = (
    record { found = found.Refused fault; answer = answered.Dropped fault },
    record { found = refl; answer = refl; code = tt },
  )
  event_for (Ok f) = frame_event f (response_to step e (Ok f)) refl
