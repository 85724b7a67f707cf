-- What the code's values hold, and what the parts of a run say to one another. No public clause cites this.
use Rattle.std.specs.Prelude.{◌≡◌, ◌⊎◌, ℕ, Bool, true, false, List, Option, Some, None}
use Rattle.std.specs.Io.KnownBytes.{Keeps, IsAtEnd}
use Rattle.uecp_text.specs.declared.run_fault.RunFault.{RunFault}
use Rattle.uecp_text.specs.declared.run_fault.RunFault.TheVariants.{Reading, Writing, OutOfMemory}
use Rattle.uecp_text.specs.Written.{Begins}
use Rattle.line_feed.specs.declared.feed_fault.FeedFault.TheVariants as feed
use Rattle.line_feed.specs.Lines.{IsFirstLine, IsUntaken}
use Rattle.rds_groups.specs.View.{receiver_of}
use Rattle.commands.specs.declared.receive_options.ShownForm.{ShownForm}
use Rattle.receive_command.specs.Shown.{Shown}
use Rattle.receive_command.specs.Told.{IsTold}
use Rattle.receive_command.specs.declared.group_lines.group_line.GroupLine.{GroupLine}
use Rattle.receive_command.specs.declared.bit_input.BitHearing.{BitHearing}
use Rattle.receive_command.specs.declared.line_input.Hearing.{Hearing}
use Rattle.receive_command.specs.Bits.{BitStanding, SaysForeign}
use Rattle.receive_command.specs.Receiving.{Standing, Takes}
use Rattle.notices.specs.Told.{Told}

-- Where receiving stands, by what was heard.
abbrev pub standing_of : Hearing → (unread held : Option (List ℕ)) → (said : Told) → Standing
standing_of h unread held said = record {
  unread = unread;
  lines = h.lines;
  refused = h.refused;
  heard = receiver_of h.receiver;
  held = held;
  said = said;
}

-- The next line was taken, which is this; or the input is at its end.
abbrev pub NextIs : (unread unread' : Option (List ℕ)) → Option GroupLine → Type 0
NextIs unread unread' None = Keeps unread unread' × IsAtEnd unread'
NextIs unread unread' (Some is) = Takes unread unread' is

-- No line was told what it is, for this.
abbrev pub NextFails : (unread unread' : Option (List ℕ)) → RunFault → Type 0
NextFails unread unread' Reading = IsUntaken unread unread' feed.Reading
NextFails unread unread' OutOfMemory = Keeps unread unread' ⊎ ((line : List ℕ) × IsFirstLine unread unread' line)
NextFails unread unread' fault = ⊥

-- Telling a change failed for this.
abbrev pub FailsToTell : ShownForm → (timed : Bool) → (before after : Shown) → (held held' : Option (List ℕ)) → RunFault
    → Type 0
FailsToTell form timed before after held held' OutOfMemory = held' ≡ held
FailsToTell form timed before after held held' Writing =
    (told : List ℕ) × IsTold form timed before after told × Begins held held' told
FailsToTell form timed before after held held' fault = ⊥

-- Where hearing bits stands, by what was heard.
abbrev pub bits_of_hearing : BitHearing → (held : Option (List ℕ)) → BitStanding
bits_of_hearing h held = record { place = h.synchroniser; heard = receiver_of h.receiver; held = held }

-- What is said of characters that are neither bits nor white space: nothing where it was said before.
abbrev pub SaysMore : (before foreign : Bool) → (said said' : Told) → Type 0
SaysMore true foreign said said' = said' ≡ said
SaysMore false foreign said said' = SaysForeign foreign said said'
