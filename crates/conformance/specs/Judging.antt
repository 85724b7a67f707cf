-- What came of a case, held against the replies that it wants (profile).
use Rattle.std.specs.Prelude.{◌≡◌, ◌≢◌, ℕ, List, [], ◌∷◌, ◌++◌, map, Ok, Err}
use Rattle.uecp_frame.specs.declared.frame.Frame.{Frame}
use Rattle.uecp_frame.specs.Findings.{Finding}
use Rattle.conformance.specs.declared.verdict.Reply.{Reply}
use Rattle.conformance.specs.declared.verdict.Expected.{Expected}
use Rattle.conformance.specs.declared.verdict.Expected.TheVariants.{This, Refusal}
use Rattle.conformance.specs.declared.verdict.Verdict.{Verdict}
use Rattle.conformance.specs.declared.verdict.Verdict.TheVariants.{Kept, Missing, Another, TooMany, NoReply, Dropped}

-- A reply of the encoder at this address, as a frame: under counter 00, with 18, the code and the counter.
abbrev pub reply_frame : (own : ℕ) → Reply → Frame
reply_frame own reply = record { address = own; counter = 0; message = 0x18 ∷ reply.code ∷ reply.counter ∷ [] }

-- These replies as what is found in a stream, in order, and nothing else.
abbrev pub replies_found : (own : ℕ) → List Reply → List Finding
replies_found own replies = map (λ reply. Ok (reply_frame own reply)) replies

-- A reply is one that is wanted: it is this one; or it is to this counter, and its code is another than 00.
abbrev pub Serves : Expected → Reply → Type 0
Serves (This reply) came = came ≡ reply
Serves (Refusal counter) came = (came.counter ≡ counter) × (came.code ≢ 0)

-- Replies are those that are wanted, one by one.
abbrev pub ServeAll : List Expected → List Reply → Type 0
ServeAll [] [] = Unit {0}
ServeAll (wanted ∷ others) (came ∷ replies) = Serves wanted came × ServeAll others replies
ServeAll wanted replies = ⊥

-- What was found is the replies that are wanted, in order, and nothing else.
abbrev pub AreWanted : (own : ℕ) → (wanted : List Expected) → (findings : List Finding) → Type 0
AreWanted own wanted findings =
    (replies : List Reply) × ServeAll wanted replies × (findings ≡ replies_found own replies)

-- How it stands behind the replies that came as they are wanted, with these wanted next and these findings next. Kept:
-- nothing more is wanted and nothing more came. Missing: a reply is wanted and nothing more came. Another: a reply came
-- that is not the one that is wanted. Too many: a reply came and none is wanted. No reply: a frame came that is no
-- reply of this encoder. Dropped: a segment came that is no frame.
abbrev pub Stands : (own : ℕ) → (wanted : List Expected) → (findings : List Finding) → Verdict → Type 0
Stands own wanted findings Kept = (wanted ≡ []) × (findings ≡ [])
Stands own wanted findings (Missing reply) = (findings ≡ []) × ((later : List Expected) × (wanted ≡ reply ∷ later))
Stands own wanted findings (Another reply came) =
    (Serves reply came → ⊥) × ((later : List Expected) × (wanted ≡ reply ∷ later))
    × ((after : List Finding) × (findings ≡ Ok (reply_frame own came) ∷ after))
Stands own wanted findings (TooMany came) =
    (wanted ≡ []) × ((after : List Finding) × (findings ≡ Ok (reply_frame own came) ∷ after))
Stands own wanted findings NoReply = (frame : Frame) × ((reply : Reply) → frame ≢ reply_frame own reply)
    × ((after : List Finding) × (findings ≡ Ok frame ∷ after))
Stands own wanted findings (Dropped fault) = (after : List Finding) × (findings ≡ Err fault ∷ after)

-- The verdict on what was found where these replies are wanted: the first of them came, in order, and it stands so
-- behind them.
pub record IsJudged (own : ℕ) (wanted : List Expected) (findings : List Finding) (verdict : Verdict) : Type 0 where
  pub met : List Expected
  pub next : List Expected
  pub agreed : List Reply
  pub more : List Finding
  pub wanted_are : wanted ≡ met ++ next
  pub served : ServeAll met agreed
  pub found_are : findings ≡ replies_found own agreed ++ more
  pub stands : Stands own next more verdict
