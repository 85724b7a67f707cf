-- What a finding came to at an encoder, and what that says. Source: profile.
use Rattle.std.specs.Prelude.{◌≡◌, ℕ, Bool, List, [], ◌∷◌, Option, Some, None}
use Rattle.uecp_elements.specs.declared.code.Code.{Code}
use Rattle.uecp_encoder.specs.declared.outcome.Outcome.{Outcome}
use Rattle.uecp_encoder.specs.declared.outcome.Outcome.TheVariants as outcome
use Rattle.uecp_encoder.specs.Answering.{Response, Replied, NotForMe, Unnumbered, NotNext, Dropped, reply_of}
use Rattle.uecp_frame.specs.Frame.{spelling}
use Rattle.uecp_frame.specs.declared.frame.Frame.{Frame}
use Rattle.uecp_frame.specs.declared.fed.Found.{Found}
use Rattle.uecp_frame.specs.declared.fed.Found.TheVariants as found

-- what an outcome says, from this address
abbrev pub said_of : (address : ℕ) → Outcome → List Response
said_of address outcome.Nothing = []
said_of address (outcome.Dropped fault) = Dropped fault ∷ []
said_of address outcome.NotForMe = NotForMe ∷ []
said_of address outcome.Unnumbered = Unnumbered ∷ []
said_of address outcome.NotNext = NotNext ∷ []
said_of address (outcome.Reply code counter fresh) = Replied (spelling (reply_of address counter code)) fresh ∷ []

-- the reply in an outcome, if it is one: whether it is fresh, and its code
abbrev pub coded_of : Outcome → Option (Bool × Code)
coded_of (outcome.Reply code counter fresh) = Some (fresh, code)
coded_of _ = None

-- What was found can come to this: nothing to nothing, a segment that is no frame to its fault, and a frame to anything
-- else, where a reply has the frame's counter.
abbrev pub ComesTo : Found → Outcome → Type 0
ComesTo here outcome.Nothing = here ≡ found.Nothing
ComesTo here (outcome.Dropped fault) = here ≡ found.Refused fault
ComesTo here outcome.NotForMe = (f : Frame) × (here ≡ found.Frame f)
ComesTo here outcome.Unnumbered = (f : Frame) × (here ≡ found.Frame f)
ComesTo here outcome.NotNext = (f : Frame) × (here ≡ found.Frame f)
ComesTo here (outcome.Reply code counter fresh) = (f : Frame) × (here ≡ found.Frame f) × (counter ≡ f.counter)
