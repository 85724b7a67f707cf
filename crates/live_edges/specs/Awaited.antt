-- What waits for a reply on a line to an encoder, and which replies count (profile).
use Rattle.std.specs.Prelude.{◌≡◌, ℕ, ◌==◌, Bool, true, false, List, [], ◌∷◌, Option, Some, None, Ok, Err}
use Rattle.std.specs.Prelude.{slice_get, slice_set, if◌then◌else◌}
use Rattle.uecp_frame.specs.Findings.{Finding, OpenPart}
use Rattle.uecp_frame.specs.Beyond.{found_beyond}
use Rattle.uecp_link.specs.Joining.{reply_counter}

-- Of each counter whether it waits: a frame under it was written to the encoder, and no reply to it has come since; and
-- whether a reply to one that waited has come.
pub record Replies : Type 0 where
  pub waits : List Bool
  pub came : Bool

-- Whether a counter waits.
abbrev pub is_true : Option Bool → Bool
is_true None = false
is_true (Some waits) = waits

abbrev pub waits_for : List Bool → (counter : ℕ) → Bool
waits_for waits counter = is_true (slice_get waits counter)

-- What was written: the counter of a frame for the encoder at the address waits; nothing else does.
abbrev pub sent_one : (address : ℕ) → List Bool → Finding → List Bool
sent_one address waits (Ok f) = if f.address == address then slice_set waits f.counter true else waits
sent_one address waits (Err fault) = waits

abbrev pub sent_all : (address : ℕ) → List Bool → List Finding → List Bool
sent_all address waits [] = waits
sent_all address waits (f ∷ fs) = sent_all address (sent_one address waits f) fs

-- What was read: a reply of the encoder at the address to a counter that waits has come, and the counter waits no more;
-- nothing else counts.
abbrev pub reply_to : Replies → (counter : Option ℕ) → Replies
reply_to r None = r
reply_to r (Some counter) =
    if waits_for r.waits counter then record { waits = slice_set r.waits counter false; came = true } else r

abbrev pub heard_all : (address : ℕ) → Replies → List Finding → Replies
heard_all address r [] = r
heard_all address r (f ∷ fs) = heard_all address (reply_to r (reply_counter address f)) fs

-- ---- What the laws say.

-- A reply to a counter that does not wait, and whatever is no reply, answers nothing.
abbrev pub AnswersNothing : (address : ℕ) → List Bool → Finding → Type 0
AnswersNothing address waits f = (counter : ℕ) → reply_counter address f ≡ Some counter
    → waits_for waits counter ≡ false

abbrev pub NoneAnswers : (address : ℕ) → List Bool → List Finding → Type 0
NoneAnswers address waits [] = Unit {0}
NoneAnswers address waits (f ∷ fs) = AnswersNothing address waits f × NoneAnswers address waits fs

-- A reply of the encoder at the address, to a counter that waits.
pub record IsAnswer (address : ℕ) (waits : List Bool) (f : Finding) : Type 0 where
  pub counter : ℕ
  pub replies : reply_counter address f ≡ Some counter
  pub waited : waits_for waits counter ≡ true

-- What bytes do comes to the same in any pieces.
abbrev pub heard_of : (address : ℕ) → OpenPart → Replies → List ℕ → Replies
heard_of address o r bytes = heard_all address r (found_beyond o bytes)
