-- What is counted of the objects of one control line (profile).
use Rattle.std.specs.Prelude.{ℕ, ◌+◌, ◌-◌, ◌^◌, min, Bool, true, List, [], ◌&&◌, ◌||◌, not, codes, if◌then◌else◌}
use Rattle.serde_json.specs.Data.{Data}
use Rattle.page.specs.Members.{flag_at, number_or_0, says, is_flag}

-- Of one control line. Objects; by the studio's end the messages that were answered, of these those that were refused,
-- and the lines that it refused itself; by the encoder's end messages and empty messages, those that came again, those
-- that were refused, segments that were no frame, and connections; lines that an end could not tell.
pub record Counts : Type 0 where
  pub lines : ℕ
  pub sent : ℕ
  pub sent_refusals : ℕ
  pub refused_lines : ℕ
  pub messages : ℕ
  pub empty : ℕ
  pub repeats : ℕ
  pub refusals : ℕ
  pub dropped : ℕ
  pub connections : ℕ
  pub not_told : ℕ

abbrev pub no_counts : Counts
no_counts = record {
  lines = 0;
  sent = 0;
  sent_refusals = 0;
  refused_lines = 0;
  messages = 0;
  empty = 0;
  repeats = 0;
  refusals = 0;
  dropped = 0;
  connections = 0;
  not_told = 0;
}

-- One more, where something holds; no more are counted than 2^64 - 1.
abbrev pub one_more : Bool → ℕ → ℕ
one_more holds count = if holds then min (count + 1) (2 ^ 64 - 1) else count

abbrev pub is_kind : (kind : List ℕ) → Data → Bool
is_kind kind d = says (codes "kind") kind d

-- The studio's end tells what became of a message that it sent.
abbrev pub is_sent : Data → Bool
is_sent d = is_kind (codes "answer") d

-- The studio's end refused a line that it was given: nothing of it was sent.
abbrev pub is_refused_line : Data → Bool
is_refused_line d = is_kind (codes "line_refused") d

-- The encoder's end tells a frame with no message in it, as joining sends 255 of them.
abbrev pub is_empty : Data → Bool
is_empty d = is_kind (codes "frame") d && says (codes "message") [] d

-- The encoder's end tells a message: by its frame, or by its reply where no frame is told.
abbrev pub is_message : Data → Bool
is_message d = is_kind (codes "frame") d && not (says (codes "message") [] d) || is_kind (codes "reply") d

-- An end tells a message, either of them.
abbrev pub is_told : Data → Bool
is_told d = is_sent d || is_message d

-- It came again: an encoder wrote a kept reply once more.
abbrev pub is_repeat : Data → Bool
is_repeat d =
    is_kind (codes "answered") d && says (codes "answer") (codes "repeat") d
    || is_kind (codes "reply") d && not (is_flag (flag_at (codes "fresh") d))

-- The encoder's end tells what became of a message that had not come before.
abbrev pub is_new_answer : Data → Bool
is_new_answer d = is_kind (codes "answered") d && says (codes "answer") (codes "new") d

-- A message was refused: its code is not 00.
abbrev pub has_bad_code : Data → Bool
has_bad_code d = not (says (codes "code") (codes "00") d)

-- How many lines an end could not tell, as nobody read them: it says so by its member `lines`; 0 where that is no whole
-- number below 2^64, and for another object.
abbrev pub lines_not_told : Data → ℕ
lines_not_told d = if is_kind (codes "not_told") d then number_or_0 (codes "lines") d else 0

-- The counts behind an object of ours.
abbrev pub counted : Data → Counts → Counts
counted d c = record {
  lines = one_more true c.lines;
  sent = one_more (is_sent d) c.sent;
  sent_refusals = one_more (is_sent d && has_bad_code d) c.sent_refusals;
  refused_lines = one_more (is_refused_line d) c.refused_lines;
  messages = one_more (is_message d) c.messages;
  empty = one_more (is_empty d) c.empty;
  repeats = one_more (is_repeat d) c.repeats;
  refusals = one_more (is_new_answer d && has_bad_code d) c.refusals;
  dropped = one_more (is_kind (codes "dropped") d) c.dropped;
  connections = one_more (is_kind (codes "connection") d) c.connections;
  not_told = min (c.not_told + lines_not_told d) (2 ^ 64 - 1);
}
