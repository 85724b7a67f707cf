-- The rows of a ladder: what stands at one height for an event of a line (profile).
use Rattle.std.specs.Prelude.{ℕ, Bool, false, List, [], ◌∷◌, ◌++◌, Ok, Err}
use Rattle.uecp_link.specs.declared.stepped.Stepped.TheVariants.{Delivered}
use Rattle.uecp_link.specs.Once.{Event, Submit, FrameComes, ReplyComes, NoiseToEncoder, NoiseToServer, EncoderLost}
use Rattle.uecp_link.specs.Once.{ServerLost, EncoderRestart, ServerRestart, Take}
use Rattle.uecp_link.specs.Holds.{Outcome}
use Rattle.uecp_words.specs.EventWords.{named_message}
use Rattle.ladders.specs.declared.row.Mark.{Mark}
use Rattle.ladders.specs.declared.row.Mark.TheVariants as mark
use Rattle.ladders.specs.declared.row.Label.{Label}
use Rattle.ladders.specs.declared.row.Label.TheVariants as label
use Rattle.ladders.specs.declared.row.Remark.TheVariants.{Lost, Step, GivenUp}
use Rattle.ladders.specs.declared.row.Row.{Row}

-- The arrow or mark of an event that took place: a frame goes to the encoder and a reply to the server, noise is
-- crossed out on its way, and the loss of a line at its end.
abbrev pub mark_of : Event → Mark
mark_of (Submit m) = mark.AtServer
mark_of (FrameComes number) = mark.ToEncoder
mark_of (ReplyComes number) = mark.ToServer
mark_of (NoiseToEncoder bytes) = mark.LostToEncoder
mark_of (NoiseToServer bytes) = mark.LostToServer
mark_of EncoderLost = mark.LostAtEncoder
mark_of ServerLost = mark.LostAtServer
mark_of EncoderRestart = mark.AtEncoder
mark_of ServerRestart = mark.AtServer
mark_of Take = mark.AtEncoder

-- A refused event has neither.
abbrev pub mark_by : Event → Outcome → Mark
mark_by event (Ok stepped) = mark_of event
mark_by event (Err refusal) = mark.Nothing

-- What it carries.
abbrev pub label_of : Event → Label
label_of (FrameComes number) = label.Frame number
label_of (ReplyComes number) = label.Reply number
label_of (NoiseToEncoder bytes) = label.Noise
label_of (NoiseToServer bytes) = label.Noise
label_of _ = label.Nothing

-- The row of an event: beside it stands what came of it.
abbrev pub row_of : Event → Outcome → Row
row_of event outcome =
    record { mark = mark_by event outcome; label = label_of event; said = Step outcome (named_message event) }

-- The row of a reply that was lost on its way.
abbrev pub lost_reply : (number : ℕ) → Row
lost_reply number = record { mark = mark.LostToServer; label = label.Reply number; said = Lost }

-- A frame that comes again to an encoder that has its message, while the server does not know of it: the reply to the
-- frame before was lost.
abbrev pub lost_before : Event → Outcome → (is_acknowledged : Bool) → List Row
lost_before (FrameComes number) (Ok (Delivered false code)) false = lost_reply number ∷ []
lost_before event outcome is_acknowledged = []

-- The rows of an event, by whether the message that it names was acknowledged before.
abbrev pub rows_of : Event → Outcome → (is_acknowledged : Bool) → List Row
rows_of event outcome is_acknowledged = lost_before event outcome is_acknowledged ++ row_of event outcome ∷ []

-- The row of a server that was replaced by one that knows nothing.
abbrev pub replaced : (given_up : ℕ) → Row
replaced given_up = record { mark = mark.AtServer; label = label.Nothing; said = GivenUp given_up }
