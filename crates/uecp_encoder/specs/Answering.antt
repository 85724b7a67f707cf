-- What an encoder answers. Source: profile; a reply is a frame of RDS Forum SPB 490.
use Rattle.std.specs.Prelude.{◌≡◌, ℕ, ◌<◌, ◌==◌, Bool, true, false, List, [], ◌∷◌, length, take, flat_map, Option, Some}
use Rattle.std.specs.Prelude.{None, Ok, Err, if◌then◌else◌}
use Rattle.uecp_frame.specs.declared.frame.Frame.{Frame}
use Rattle.uecp_frame.specs.declared.fault.FrameFault.{FrameFault}
use Rattle.uecp_frame.specs.Address.{reaches}
use Rattle.uecp_frame.specs.Frame.{spelling}
use Rattle.uecp_frame.specs.Findings.{Finding}
use Rattle.uecp_frame.specs.Beyond.{found_beyond}
use Rattle.uecp_elements.specs.declared.code.Code.{Code}
use Rattle.uecp_elements.specs.Codes.{byte_of}
use Rattle.reply_ring.specs.Ring.{kept_code}
use Rattle.uecp_encoder.specs.declared.answer.What.{What}
use Rattle.uecp_encoder.specs.declared.answer.What.TheVariants as what
use Rattle.uecp_encoder.specs.declared.answer.Answer.{Answer}
use Rattle.uecp_encoder.specs.Target.{Step}
use Rattle.uecp_encoder.specs.State.{EncoderState, is_next, after_finding}

-- the encoder's reply to a numbered message: from its own address, unnumbered, with the message's code and counter
abbrev pub reply_of : (address counter : ℕ) → Code → Frame
reply_of address counter code = record { address = address; counter = 0; message = 0x18 ∷ byte_of code ∷ counter ∷ [] }

-- what an encoder answers to one finding
pub data Response : Type 0 where
  Replied : (bytes : List ℕ) (fresh : Bool) → Response
  NotForMe : Response
  Unnumbered : Response
  NotNext : Response
  Dropped : FrameFault → Response

-- To a numbered frame for it, by the code that is kept for the counter: the kept code again; else the code of the
-- message applied now where its counter is the next, and no reply where it is not.
abbrev pub replied : {V : Type 0} → Step V → EncoderState V → Frame → Option Code → Response
replied step e f (Some code) = Replied (spelling (reply_of e.address f.counter code)) false
replied step e f None = if is_next e.ring f.counter then Replied
    (spelling (reply_of e.address f.counter (step e.value f.message).1)) true else NotNext

-- To one finding, from this state: a fault is dropped, a frame for another and one with counter 00 are named, and a
-- numbered frame for this encoder gets a reply, unless it is neither a repeat nor the next.
abbrev pub response_to : {V : Type 0} → Step V → EncoderState V → Finding → Response
response_to step e (Err fault) = Dropped fault
response_to step e (Ok f) =
    if reaches f.address e.address then (if f.counter
    == 0 then Unnumbered else replied step e f (kept_code e.ring f.counter)) else NotForMe

-- to findings one after another, each from the state that the one before left
abbrev pub responses : {V : Type 0} → Step V → EncoderState V → List Finding → List Response
responses step e [] = []
responses step e (f ∷ fs) = response_to step e f ∷ responses step (after_finding step e f) fs

-- The bytes that go back to the server: those of a reply, and for anything else none.
abbrev pub bytes_sent : Response → List ℕ
bytes_sent (Replied bytes fresh) = bytes
bytes_sent NotForMe = []
bytes_sent Unnumbered = []
bytes_sent NotNext = []
bytes_sent (Dropped fault) = []

-- The responses of an encoder to the frames that these bytes hold, behind what it has of one that is not finished.
abbrev pub responses_to : {V : Type 0} → Step V → EncoderState V → List ℕ → List Response
responses_to step e bytes = responses step e (found_beyond e.part bytes)

-- the replies among these, joined
abbrev pub answers : {V : Type 0} → Step V → EncoderState V → List ℕ → List ℕ
answers step e bytes = flat_map bytes_sent (responses_to step e bytes)

-- what `feed` says, as responses
abbrev pub responses_of : What → List Response
responses_of what.Nothing = []
responses_of (what.Reply reply fresh) = Replied reply.now.items fresh ∷ []
responses_of what.NotForMe = NotForMe ∷ []
responses_of what.Unnumbered = Unnumbered ∷ []
responses_of what.NotNext = NotNext ∷ []
responses_of (what.Dropped fault) = Dropped fault ∷ []

-- The bytes of the piece up to the one at which the first finding is judged are used, or all where there is none; and
-- the answer is to that finding.
pub record AnswersPiece {V : Type 0} (step : Step V) (old : EncoderState V) (piece : List ℕ) (answer : Answer) : Type
    0 where
  pub said : responses step old (found_beyond old.part (take answer.used piece)) ≡ responses_of answer.what
  pub first : (k : ℕ) → k < answer.used → found_beyond old.part (take k piece) ≡ []
  pub all : answer.what ≡ what.Nothing → answer.used ≡ length piece
