-- What is told of the lines of a reader as they come. (profile)
use Rattle.std.specs.Prelude.{◌≡◌, ◌⊎◌, ℕ, ◌+◌, ◌-◌, ◌^◌, min, Bool, true, false, ◌||◌, List, [], ◌∷◌, ◌++◌, codes}
use Rattle.std.specs.Prelude.{decimal, Option, if◌then◌else◌}
use Rattle.std.specs.Io.KnownBytes.{Keeps, IsAtEnd, Appends}
use Rattle.uecp_text.specs.declared.run_fault.RunFault.{RunFault}
use Rattle.uecp_text.specs.declared.run_fault.RunFault.TheVariants.{Reading, Writing, OutOfMemory}
use Rattle.uecp_text.specs.Faults.{error_lines}
use Rattle.uecp_text.specs.Written.{Begins}
use Rattle.line_feed.specs.declared.feed_fault.FeedFault.TheVariants as feed
use Rattle.line_feed.specs.Lines.{IsFirstLine, IsUntaken}
use Rattle.rds_groups.specs.Shown.{Receiver, switched_on}
use Rattle.commands.specs.declared.receive_options.ShownForm.{ShownForm}
use Rattle.receive_command.specs.Shown.{shown_by}
use Rattle.receive_command.specs.Told.{IsTold}
use Rattle.receive_command.specs.declared.group_lines.group_line.GroupLine.{GroupLine}
use Rattle.receive_command.specs.declared.group_lines.group_line.GroupLine.TheVariants.{Nothing, Group, NoGroup}
use Rattle.receive_command.specs.GroupLines.{IsTaken, after_line}
use Rattle.notices.specs.Told.{Told, Says}

-- Where receiving stands: what of the input was not taken, how many lines were, whether one of them was no group, what
-- the receiver has heard, and what the writer and standard error hold.
pub record Standing : Type 0 where
  pub unread : Option (List ℕ)
  pub lines : ℕ
  pub refused : Bool
  pub heard : Receiver
  pub held : Option (List ℕ)
  pub said : Told

-- At first the receiver is switched on.
abbrev pub at_first : (unread held : Option (List ℕ)) → (said : Told) → Standing
at_first unread held said = record {
  unread = unread;
  lines = 0;
  refused = false;
  heard = switched_on;
  held = held;
  said = said;
}

-- What is said of the line of this number, which is no group.
abbrev pub refusal_line : (number : ℕ) → List ℕ
refusal_line number = codes "uecp: line " ++ (decimal number ++ codes ": no group\n")

-- That, as far as it could be written; nothing of another line.
abbrev pub SaysOf : GroupLine → (number : ℕ) → (said said' : Told) → Type 0
SaysOf Nothing number said said' = said' ≡ said
SaysOf (Group g) number said said' = said' ≡ said
SaysOf NoGroup number said said' = Says said said' (refusal_line number)

abbrev pub is_refused : GroupLine → Bool
is_refused Nothing = false
is_refused (Group g) = false
is_refused NoGroup = true

-- The next line was taken, which is this.
abbrev pub Takes : (unread unread' : Option (List ℕ)) → GroupLine → Type 0
Takes unread unread' is = (line : List ℕ) × IsFirstLine unread unread' line × IsTaken line is

-- The next line was taken, which is this, and the receiver heard it; what changed in what it shows was written, and
-- nothing else, and the line was counted, with no more counted than 2^64 - 1.
pub record Hears (form : ShownForm) (timed : Bool) (is : GroupLine) (x x' : Standing) : Type 0 where
  pub taken : Takes x.unread x'.unread is
  pub lines : x'.lines ≡ min (x.lines + 1) (2 ^ 64 - 1)
  pub refused : x'.refused ≡ x.refused || is_refused is
  pub heard : x'.heard ≡ after_line is x.heard
  pub told : List ℕ
  pub is_told : IsTold form timed (shown_by x.heard) (shown_by x'.heard) told
  pub written : Appends x.held x'.held told
  pub said : SaysOf is x'.lines x.said x'.said

-- So one line after another.
abbrev pub HearsEach : ShownForm → (timed : Bool) → List GroupLine → (x x' : Standing) → Type 0
HearsEach form timed [] x x' = x' ≡ x
HearsEach form timed (is ∷ others) x x' =
    (next : Standing) × Hears form timed is x next × HearsEach form timed others next x'

-- ---- How a run ends.
-- The input was at its end: 1 where a line was no group, else 0.
pub record Ends (status : ℕ) (x : Standing) (unread' held' : Option (List ℕ)) (said' : Told) : Type 0 where
  pub status_is : status ≡ (if x.refused then 1 else 0)
  pub kept : Keeps x.unread unread'
  pub ended : IsAtEnd unread'
  pub held : held' ≡ x.held
  pub said : said' ≡ x.said

-- The next line was taken, and what would have been told of it is this.
abbrev pub WouldTell : ShownForm → (timed : Bool) → Standing → (unread' : Option (List ℕ)) → (told : List ℕ) → Type 0
WouldTell form timed x unread' told =
    (is : GroupLine) × Takes x.unread unread' is
    × IsTold form timed (shown_by x.heard) (shown_by (after_line is x.heard)) told

-- No line could be read, or memory was wanting for one or for what it is, and nothing more was written; or writing
-- failed, and a beginning of what there was to tell of the next line was.
abbrev pub FailsFor : RunFault → ShownForm → (timed : Bool) → Standing → (unread' held' : Option (List ℕ)) → Type 0
FailsFor Reading form timed x unread' held' = IsUntaken x.unread unread' feed.Reading × (held' ≡ x.held)
FailsFor OutOfMemory form timed x unread' held' =
    (Keeps x.unread unread' ⊎ ((line : List ℕ) × IsFirstLine x.unread unread' line)) × (held' ≡ x.held)
FailsFor Writing form timed x unread' held' =
    (told : List ℕ) × WouldTell form timed x unread' told × Begins x.held held' told
FailsFor fault form timed x unread' held' = ⊥

-- That was said, and the status is 3.
abbrev pub Fails : ShownForm → (timed : Bool) → (status : ℕ) → Standing → (unread' held' : Option (List ℕ))
    → (said' : Told)
    → Type 0
Fails form timed status x unread' held' said' =
    (status ≡ 3)
    × ((fault : RunFault) × FailsFor fault form timed x unread' held' × Says x.said said' (error_lines fault))

-- Lines were heard one after another from the front of the input, and then the run ended or failed.
abbrev pub Receives : ShownForm → (timed : Bool) → (status : ℕ) → (x : Standing)
    → (unread' held' : Option (List ℕ)) → (said' : Told)
    → Type 0
Receives form timed status x unread' held' said' =
    (lines : List GroupLine) × (last : Standing) × HearsEach form timed lines x last
    × (Ends status last unread' held' said' ⊎ Fails form timed status last unread' held' said')
