-- Four histories of both ends, byte by byte, computed: a kill within a save of either end; a reply that is lost with
-- its connection; an encoder that comes back with nothing; a port scanner between two connections. Source: profile.
use Rattle.std.specs.Prelude.{◌≡◌, ℕ, false, List, [], ◌∷◌, ◌++◌, Some, None}
use Rattle.uecp_elements.specs.declared.code.Code.TheVariants.{Applied}
use Rattle.uecp_encoder.specs.Target.{Step, Taken}
use Rattle.uecp_encoder.specs.State.{opening}
use Rattle.uecp_link.specs.Server.{idle_at}
use Rattle.promises.specs.Ends.{Ends, EndEvent, TakesLines, Dials, Writes, Hears, Tells, StudioCrashes, Reads, Leaves}
use Rattle.promises.specs.Ends.{EncoderCrashes, Stranger, ends_from, run_ends, MayAll}
use Rattle.promises.specs.EachLine.{Stretch, AreStretches, end_of}

-- A target that keeps each message that is applied, and answers 00; it has no groups.
abbrev pub keeps_each : Step (List (List ℕ))
keeps_each v m = (v ++ m ∷ [], Applied)

abbrev pub gives_none : Taken (List (List ℕ))
gives_none v = (v, None)

-- Two messages, a traffic announcement and a programme type.
abbrev pub announcement : List ℕ
announcement = 0x03 ∷ 0x00 ∷ 0x00 ∷ 0x03 ∷ []

abbrev pub programme_type : List ℕ
programme_type = 0x07 ∷ 0x00 ∷ 0x00 ∷ 0x09 ∷ []

-- What is on the line to the encoder at 001: the frames of both, under counters 01 and 02, and the replies to these.
abbrev pub frame_1 : List ℕ
frame_1 = 0xFE ∷ 0x00 ∷ 0x01 ∷ 0x01 ∷ 0x04 ∷ 0x03 ∷ 0x00 ∷ 0x00 ∷ 0x03 ∷ 0x11 ∷ 0xB9 ∷ 0xFF ∷ []

abbrev pub frame_2 : List ℕ
frame_2 = 0xFE ∷ 0x00 ∷ 0x01 ∷ 0x02 ∷ 0x04 ∷ 0x07 ∷ 0x00 ∷ 0x00 ∷ 0x09 ∷ 0xB4 ∷ 0xE2 ∷ 0xFF ∷ []

abbrev pub reply_1 : List ℕ
reply_1 = 0xFE ∷ 0x00 ∷ 0x01 ∷ 0x00 ∷ 0x03 ∷ 0x18 ∷ 0x00 ∷ 0x01 ∷ 0x2A ∷ 0xAE ∷ 0xFF ∷ []

abbrev pub reply_2 : List ℕ
reply_2 = 0xFE ∷ 0x00 ∷ 0x01 ∷ 0x00 ∷ 0x03 ∷ 0x18 ∷ 0x00 ∷ 0x02 ∷ 0x1A ∷ 0xCD ∷ 0xFF ∷ []

-- A new encoder, and a new server for it.
abbrev pub new_ends : Ends (List (List ℕ))
new_ends = ends_from (opening 1 []) (idle_at 1) 0

-- It may happen; and then the store has both messages, in order and each once, and both were told to be applied.
pub record HasBoth (events : List EndEvent) : Type 0 where
  pub may : MayAll keeps_each gives_none new_ends events
  pub store : (run_ends keeps_each gives_none new_ends events).transmitter.encoder.value
      ≡ announcement ∷ programme_type ∷ []
  pub first : (run_ends keeps_each gives_none new_ends events).studio.told 0 ≡ Some Applied
  pub second : (run_ends keeps_each gives_none new_ends events).studio.told 1 ≡ Some Applied

-- Each end is killed within a save: the encoder once it read the second frame, of which no file has anything then; and
-- the studio once it read the first reply. Both frames go out again: one is a repeat, one is new.
abbrev pub killed_within_saves : List EndEvent
killed_within_saves =
    TakesLines (announcement ∷ programme_type ∷ []) ∷ Dials ∷ Writes ∷ Reads frame_1 ∷ EncoderCrashes ∷ Hears reply_1
    ∷ StudioCrashes false ∷ Dials ∷ Writes ∷ Reads (frame_1 ++ frame_2) ∷ Hears (reply_1 ++ reply_2) ∷ Tells ∷ []

-- The first reply is cut off behind three bytes, with its connection; on the next one the frame is a repeat.
abbrev pub reply_is_lost : List EndEvent
reply_is_lost =
    TakesLines (announcement ∷ []) ∷ Dials ∷ Writes ∷ Reads frame_1 ∷ Leaves ∷ Hears (0xFE ∷ 0x00 ∷ 0x01 ∷ []) ∷ Dials
    ∷ Writes ∷ Reads frame_1 ∷ Hears reply_1 ∷ Tells ∷ TakesLines (programme_type ∷ []) ∷ Writes ∷ Reads frame_2
    ∷ Hears reply_2 ∷ Tells ∷ []

-- What a port scanner says, and behind it a frame for another encoder.
abbrev pub scan : List ℕ
scan =
    0x47 ∷ 0x45 ∷ 0x54 ∷ 0x20 ∷ 0x2F ∷ 0x20 ∷ 0x48 ∷ 0x54 ∷ 0x54 ∷ 0x50 ∷ 0x2F ∷ 0x31 ∷ 0x2E ∷ 0x30 ∷ 0x0D ∷ 0x0A
    ∷ 0x0D ∷ 0x0A ∷ 0xFE ∷ 0x00 ∷ 0x41 ∷ 0x01 ∷ 0x04 ∷ 0x03 ∷ 0x00 ∷ 0x00 ∷ 0x03 ∷ 0xCC ∷ 0x55 ∷ 0xFF ∷ []

-- It comes between the studio's two connections.
abbrev pub scanned_between : List EndEvent
scanned_between =
    TakesLines (announcement ∷ []) ∷ Dials ∷ Writes ∷ Reads frame_1 ∷ Leaves ∷ Stranger scan ∷ Dials ∷ Writes
    ∷ Reads frame_1 ∷ Hears reply_1 ∷ Tells ∷ TakesLines (programme_type ∷ []) ∷ Writes ∷ Reads frame_2
    ∷ Hears reply_2 ∷ Tells ∷ []

-- The encoder loses its file, and is joined anew; both messages are said again, the second as a new line.
abbrev pub before_the_loss : Stretch (List (List ℕ))
before_the_loss = record {
  encoder = opening 1 [];
  server = idle_at 1;
  events = TakesLines (announcement ∷ []) ∷ Dials ∷ Writes ∷ Reads frame_1 ∷ Hears reply_1 ∷ Tells ∷ [];
}

abbrev pub behind_the_loss : Stretch (List (List ℕ))
behind_the_loss = record {
  encoder = opening 1 [];
  server = idle_at 1;
  events =
      TakesLines (announcement ∷ programme_type ∷ []) ∷ Dials ∷ Writes ∷ Reads (frame_1 ++ frame_2)
      ∷ Hears (reply_1 ++ reply_2) ∷ Tells ∷ [];
}

-- Both may be, one behind the other; and then the store has both, each once, and three lines were taken.
pub record ComesBack : Type 0 where
  pub may : AreStretches keeps_each gives_none 1 [] 0 [] (before_the_loss ∷ behind_the_loss ∷ [])
  pub store : (end_of keeps_each gives_none 1 behind_the_loss).transmitter.encoder.value
      ≡ announcement ∷ programme_type ∷ []
  pub counted : (end_of keeps_each gives_none 1 behind_the_loss).studio.file.taken ≡ 3
  pub told : (end_of keeps_each gives_none 1 behind_the_loss).studio.told 1 ≡ Some Applied

-- Law: so they come out.
abbrev pub FourHistories : Type 0
FourHistories = HasBoth killed_within_saves × HasBoth reply_is_lost × HasBoth scanned_between × ComesBack
