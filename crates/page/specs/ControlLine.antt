-- What is known of one control line: the fold of the objects that name it (profile).
use Rattle.std.specs.Prelude.{ℕ, Bool, false, ◌||◌, List, [], ◌∷◌, map, Option, None, if◌then◌else◌}
use Rattle.std.specs.Str.{bytes_eq}
use Rattle.serde_json.specs.Data.{Data}
use Rattle.page.specs.Counts.{Counts, no_counts, counted}
use Rattle.page.specs.Minutes.{Minutes, no_minutes, minutes_after}
use Rattle.page.specs.Air.{Air, no_air, air_after}
use Rattle.page.specs.Answered.{is_of_encoder, answered_after}
use Rattle.page.specs.Link.{Linked, Refusal, RefusedLine, linked_after, refused_after, refused_line_after}
use Rattle.page.specs.Link.{failed_after, heard_after}
use Rattle.page.specs.Seen.{Seen, seen}
use Rattle.page.specs.Changes.{Change, history_after}
use Rattle.page.specs.declared.state.announced.Announcement.{Announcement}
use Rattle.page.specs.Announced.{announced_after}

-- An object of ours, and when it came: by the page's clock, in milliseconds, whatever time it tells itself.
pub record Arrived : Type 0 where
  pub object : Data
  pub came : ℕ

-- Its name, empty where objects name none; what is on the air as the encoder's end tells, and as the studio was
-- answered; whether the encoder's end told anything; the counts; its connection; the last message, where it was
-- refused; the last line of the studio's, where that was refused; whether a save failed; the time that was told last;
-- when the last object that names it came; how many messages came in each minute; the rows of its history that are
-- kept; which announcements are on.
pub record Line : Type 0 where
  pub name : List ℕ
  pub air : Air
  pub answered : Air
  pub has_encoder : Bool
  pub counts : Counts
  pub linked : Option Linked
  pub refused : Option Refusal
  pub refused_line : Option RefusedLine
  pub failed : Bool
  pub heard : Option (List ℕ)
  pub told_at : ℕ
  pub minutes : Minutes
  pub history : List Change
  pub announced : List Announcement

-- Nothing was told of it yet.
abbrev pub new_line : (name : List ℕ) → Line
new_line name = record {
  name = name;
  air = no_air;
  answered = no_air;
  has_encoder = false;
  counts = no_counts;
  linked = None;
  refused = None;
  refused_line = None;
  failed = false;
  heard = None;
  told_at = 0;
  minutes = no_minutes;
  history = [];
  announced = [];
}

abbrev pub is_named : (name : List ℕ) → Line → Bool
is_named name l = bytes_eq l.name name

-- What is shown as on the air: what the encoder's end tells, where that told anything; else as the studio was answered.
abbrev pub air_shown : Line → Air
air_shown l = if l.has_encoder then l.air else l.answered

-- What its history tells, of what is shown.
abbrev pub seen_on : Line → List Seen
seen_on l = map seen (air_shown l).services

-- Behind an object that names it: what that tells.
abbrev pub taken : Arrived → Line → Line
taken d l = record l {
  air = air_after d.object l.air;
  answered = answered_after d.object l.answered;
  has_encoder = is_of_encoder d.object || l.has_encoder;
  counts = counted d.object l.counts;
  linked = linked_after d.object l.linked;
  refused = refused_after d.object l.refused;
  refused_line = refused_line_after d.object l.refused_line;
  failed = failed_after d.object l.failed;
  heard = heard_after d.object l.heard;
  told_at = d.came;
  minutes = minutes_after d.came d.object l.minutes;
}

-- And what changed on the air by that, as it is shown.
abbrev pub noted : (came : ℕ) → (before : List Seen) → Line → Line
noted came before l = record l {
  history = history_after came before (seen_on l) l.history;
  announced = announced_after came (seen_on l) l.announced;
}

abbrev pub line_after : Arrived → Line → Line
line_after d l = noted d.came (seen_on l) (taken d l)

-- Behind objects, in the order in which they came.
abbrev pub line_behind : List Arrived → Line → Line
line_behind [] l = l
line_behind (d ∷ ds) l = line_behind ds (line_after d l)
