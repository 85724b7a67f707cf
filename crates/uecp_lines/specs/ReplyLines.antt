-- The lines of replies, of which those that were written are kept by counter (profile).
use Rattle.std.specs.Prelude.{◌≡◌, ℕ, ◌++◌, List, codes, length, IfSome, slice_get}
use Rattle.uecp_frame.specs.Frame.{spelling}
use Rattle.uecp_elements.specs.declared.code.Code.{Code}
use Rattle.uecp_encoder.specs.Answering.{reply_of}
use Rattle.uecp_text.specs.Digits.{row_word}
use Rattle.uecp_lines.specs.declared.reply_lines.ReplyLine.{ReplyLine}

-- The line of a reply, but for what ends it: whether the reply is new.
abbrev pub reply_words : (address counter : ℕ) → Code → List ℕ
reply_words address counter code = codes "reply" ++ row_word (spelling (reply_of address counter code))

-- What is kept for a counter is nothing, or the line of the reply to it from the address and with the code that are
-- kept with it.
abbrev pub IsReplyLine : (counter : ℕ) → ReplyLine → Type 0
IsReplyLine counter line = IfSome line.code (λ code. line.text.items ≡ reply_words line.address counter code)

-- So it is for each of 256 counters.
pub record AreReplyLines (lines : List ReplyLine) : Type 0 where
  pub many : length lines ≡ 256
  pub each : (counter : ℕ) → IfSome (slice_get lines counter) (IsReplyLine counter)
