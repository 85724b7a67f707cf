-- What `serve` does with the bytes that it reads. Source: profile.
use Rattle.std.specs.Prelude.{◌≡◌, ℕ, ◌+◌, ◌*◌, ◌<◌, ◌≤◌, List, [], ◌∷◌, length, take, Option, Result, Ok, Err}
use Rattle.std.specs.Io.KnownBytes.{IsAtEnd}
use Rattle.uecp_encoder.specs.declared.serving.Served.{Served}
use Rattle.uecp_encoder.specs.declared.serving.ServeFault.{ServeFault}
use Rattle.uecp_encoder.specs.declared.serving.ServeFault.TheVariants.{ReadFailed, WriteFailed, TurnsSpent}
use Rattle.uecp_encoder.specs.Target.{Step}
use Rattle.uecp_encoder.specs.State.{EncoderState, fed}
use Rattle.uecp_encoder.specs.Answering.{Response, Replied, NotForMe, Unnumbered, NotNext, Dropped, responses_to}
use Rattle.uecp_encoder.specs.Answering.{answers}
use Rattle.uecp_encoder.specs.Metered.{counted}

-- 1 for a reply, else 0
abbrev pub replies_in : Response → ℕ
replies_in (Replied bytes fresh) = 1
replies_in NotForMe = 0
replies_in Unnumbered = 0
replies_in NotNext = 0
replies_in (Dropped fault) = 0

-- how many of these are replies
abbrev pub replies_among : List Response → ℕ
replies_among [] = 0
replies_among (r ∷ rs) = replies_in r + replies_among rs

-- The encoder was fed all of s, and all replies to it were written.
pub record AnswersAll {V : Type 0} (step : Step V) (e e' : EncoderState V) (s sent : List ℕ) : Type 0 where
  pub state : e' ≡ fed step e s
  pub written : sent ≡ answers step e s

-- All of s was fed, and all replies to it were written: so many replies, of so many bytes. A reply comes with a byte of
-- s, and has at most 16 bytes.
pub record Sends {V : Type 0} (step : Step V) (e e' : EncoderState V) (s sent : List ℕ) (replies bytes : ℕ) : Type
    0 where
  pub all : AnswersAll step e e' s sent
  pub replies_are : replies ≡ replies_among (responses_to step e s)
  pub bytes_are : bytes ≡ length sent
  pub few_replies : replies ≤ length s
  pub few_bytes : bytes ≤ 16 * length s

-- A write failed after the first w bytes of the replies to s. The encoder was fed s up to and with the byte at this
-- place, at which the reply that was being written became due: the replies before it were written whole, and it was
-- not.
pub record StopsWriting {V : Type 0} (step : Step V) (e e' : EncoderState V) (s sent : List ℕ) (w place : ℕ) : Type
    0 where
  pub within : place < length s
  pub state : e' ≡ fed step e (take (place + 1) s)
  pub written : sent ≡ take w (answers step e s)
  pub before : length (answers step e (take place s)) ≤ w
  pub due : w < length (answers step e (take (place + 1) s))

-- How a call ended that read s and wrote these bytes. The end of input comes with the number of bytes read and of
-- replies; where the turns are spent, each gave a byte; where a write failed, fewer than 512 bytes were read past those
-- that were fed.
abbrev pub Serves : {V : Type 0} → Step V → (e e' : EncoderState V) → (s sent : List ℕ) → (unread : Option (List ℕ))
    → (turns : ℕ) → Result Served ServeFault → Type 0
Serves step e e' s sent unread turns (Ok served) =
    AnswersAll step e e' s sent × IsAtEnd unread × (served.read ≡ length s)
    × (served.replies ≡ replies_among (responses_to step e s))
Serves step e e' s sent unread turns (Err ReadFailed) = AnswersAll step e e' s sent
Serves step e e' s sent unread turns (Err TurnsSpent) = AnswersAll step e e' s sent × (turns ≤ length s)
Serves step e e' s sent unread turns (Err (WriteFailed w)) =
    (place : ℕ) × StopsWriting step e e' s sent w place × (length s < place + 1 + 512)

-- how many reads a call made: all turns where they are spent, else at least one
abbrev pub ReadsMade : Result Served ServeFault → (turns n : ℕ) → Type 0
ReadsMade (Ok served) turns n = (1 ≤ n) × (n ≤ turns)
ReadsMade (Err ReadFailed) turns n = (1 ≤ n) × (n ≤ turns)
ReadsMade (Err TurnsSpent) turns n = n ≡ turns
ReadsMade (Err (WriteFailed w)) turns n = (1 ≤ n) × (n ≤ turns)

-- the reader's failures after the call: one more at `ReadFailed`
abbrev pub read_failures : Result Served ServeFault → ℕ → ℕ
read_failures (Err ReadFailed) failures = counted failures
read_failures (Ok served) failures = failures
read_failures (Err TurnsSpent) failures = failures
read_failures (Err (WriteFailed w)) failures = failures

-- the reader's reads that brought nothing, after the call: one more at the end of input
abbrev pub empty_reads : Result Served ServeFault → ℕ → ℕ
empty_reads (Ok served) empty = counted empty
empty_reads (Err ReadFailed) empty = empty
empty_reads (Err TurnsSpent) empty = empty
empty_reads (Err (WriteFailed w)) empty = empty

-- the writer's failures after the call: one more at `WriteFailed`
abbrev pub write_failures : Result Served ServeFault → ℕ → ℕ
write_failures (Err (WriteFailed w)) failures = counted failures
write_failures (Ok served) failures = failures
write_failures (Err ReadFailed) failures = failures
write_failures (Err TurnsSpent) failures = failures
