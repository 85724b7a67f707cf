-- How lines are taken from an input as they come (profile).
use Rattle.std.specs.Prelude.{◌≡◌, ◌⊎◌, ℕ, ◌+◌, ◌-◌, ◌^◌, min, Bool, true, false, ◌||◌, ◌<◌, List, [], ◌∷◌, ◌++◌}
use Rattle.std.specs.Prelude.{length, Option, Some, None, option_map, codes, decimal}
use Rattle.std.specs.String.{string_bytes}
use Rattle.std.specs.Io.KnownBytes.{Keeps, IsAtEnd}
use Rattle.rds_text.specs.declared.programme_type.Region.{Region}
use Rattle.uecp_text.specs.declared.text_fault.TextFault.{TextFault}
use Rattle.uecp_text.specs.declared.text_fault.TextFault.TheVariants.{NotACommand, MessageTooLong}
use Rattle.uecp_text.specs.declared.run_fault.RunFault.{RunFault}
use Rattle.uecp_text.specs.declared.run_fault.RunFault.TheVariants.{Reading, OutOfMemory}
use Rattle.uecp_text.specs.Faults.{error_lines}
use Rattle.uecp_text.specs.Input.{said}
use Rattle.uecp_text.specs.Run.{fault_at}
use Rattle.line_feed.specs.declared.feed_fault.FeedFault.TheVariants as feed
use Rattle.line_feed.specs.Lines.{IsFirstLine, IsHeld, IsUntaken}
use Rattle.line_batches.specs.declared.intake.Input.{Input}
use Rattle.line_batches.specs.declared.intake.Input.TheVariants.{Phrases, Fitted, Titles as TitlesOf}
use Rattle.line_batches.specs.declared.intake.Given.{Given}
use Rattle.line_batches.specs.declared.intake.Given.TheVariants.{Nothing, Gives, Refused}
use Rattle.titles.specs.declared.title.Titles.{Titles}
use Rattle.titles.specs.declared.title.Title.TheVariants as title
use Rattle.titles.specs.Titles.{GivesTitle, IsRefused}
use Rattle.titles.specs.Lines.{SaysNeither, SaysRefitted}
use Rattle.phrase_scripts.specs.Lines.{Begins as Heads, Says, SaysLine, SaysNothing, IsUnsaid}
use Rattle.notices.specs.Told.{Told, Says as IsSaid}

-- ---- A line of phrases.

-- A text is refused for this: it says nothing; or it is the heading of a frame, which is no matter of a server.
abbrev pub RefusesText : Region → (text : List ℕ) → TextFault → Type 0
RefusesText region text fault =
    (IsUnsaid fault × SaysNothing region text)
    ⊎ ((fault ≡ NotACommand) × ((address : ℕ) × (counter : ℕ) × SaysLine region text (Heads address counter)))

-- What a text gives.
abbrev pub ReadsText : Region → (text : List ℕ) → Given → Type 0
ReadsText region text Nothing = ⊥
ReadsText region text (Gives message fitted) = SaysLine region text (Says message) × (fitted ≡ None)
ReadsText region text (Refused fault) = RefusesText region text fault

-- What a line of phrases gives: nothing where it says nothing, being empty or a comment; or what its text gives.
abbrev pub ReadsPhrases : Region → (line : List ℕ) → Given → Type 0
ReadsPhrases region line given =
    ((said line ≡ None) × (given ≡ Nothing))
    ⊎ ((text : List ℕ) × (said line ≡ Some text) × ReadsText region text given)

-- ---- A line of phrases that is made to fit.

-- What a text gives: its message as it stands; or where it says nothing so, that of the text with its strings made to
-- fit, and that text. Or it is refused: it says nothing either way; or it is the heading of a frame.
abbrev pub ReadsRefitted : Region → (text : List ℕ) → Given → Type 0
ReadsRefitted region text Nothing = ⊥
ReadsRefitted region text (Gives message fitted) =
    SaysRefitted region text (Says message) (option_map string_bytes fitted)
ReadsRefitted region text (Refused fault) =
    (IsUnsaid fault × SaysNeither region text)
    ⊎ ((fault ≡ NotACommand) × ((address : ℕ) × (counter : ℕ) × (fitted : Option (List ℕ))
    × SaysRefitted region text (Heads address counter) fitted))

-- What a line gives so: nothing where it says nothing, being empty or a comment; or what its text gives.
abbrev pub ReadsFitted : Region → (line : List ℕ) → Given → Type 0
ReadsFitted region line given =
    ((said line ≡ None) × (given ≡ Nothing))
    ⊎ ((text : List ℕ) × (said line ≡ Some text) × ReadsRefitted region text given)

-- ---- A line that is a title.

-- What it gives: the message of its text as it stands or was made to fit, or nothing; or it is refused.
abbrev pub ReadsTitle : Titles → (line : List ℕ) → Given → Type 0
ReadsTitle titles line Nothing = GivesTitle titles line title.Nothing
ReadsTitle titles line (Gives message None) = GivesTitle titles line (title.Stands message)
ReadsTitle titles line (Gives message (Some fitted)) = GivesTitle titles line (title.Fits message fitted)
ReadsTitle titles line (Refused fault) = IsUnsaid fault × IsRefused titles line

-- ---- A line.

-- What a line gives that is not too long, by what the lines of the input are.
abbrev pub Reads : Input → (line : List ℕ) → Given → Type 0
Reads (Phrases region) line given = ReadsPhrases region line given
Reads (Fitted region) line given = ReadsFitted region line given
Reads (TitlesOf titles) line given = ReadsTitle titles line given

-- What a line gives: as it reads; or a refusal, where it is too long.
abbrev pub GivesOne : Input → (line : List ℕ) → Given → Type 0
GivesOne input line given = Reads input line given ⊎ ((65536 < length line) × (given ≡ Refused MessageTooLong))

-- The next line was taken, and gives this; or none was, and the input is at its end.
abbrev pub NextGives : Input → (unread unread' : Option (List ℕ)) → Option Given → Type 0
NextGives input unread unread' None = Keeps unread unread' × IsAtEnd unread'
NextGives input unread unread' (Some given) =
    (line : List ℕ) × IsFirstLine unread unread' line × GivesOne input line given

-- So; and of the line that was taken this is held.
abbrev pub GivesNext : Input → (unread unread' : Option (List ℕ)) → (held : List ℕ) → Option Given → Type 0
GivesNext input unread unread' held None = NextGives input unread unread' None
GivesNext input unread unread' held (Some given) =
    (line : List ℕ) × IsFirstLine unread unread' line × GivesOne input line given × IsHeld line held

-- No line gives anything, for this: a read failed, and no line was taken; or memory was wanting for a line, and where
-- it was wanting for what that says, the line is lost.
abbrev pub NextFails : (unread unread' : Option (List ℕ)) → RunFault → Type 0
NextFails unread unread' Reading = IsUntaken unread unread' feed.Reading
NextFails unread unread' OutOfMemory = Keeps unread unread' ⊎ ((line : List ℕ) × IsFirstLine unread unread' line)
NextFails unread unread' fault = ⊥

-- Where the taking of lines stands: what of the input was not taken, how many lines were, whether one of them was
-- refused, and what standard error holds.
pub record Intake : Type 0 where
  pub unread : Option (List ℕ)
  pub lines : ℕ
  pub refused : Bool
  pub said : Told

-- So of a feed: where the feed stands, in place of what of the input was not taken.
pub record FeedIntake (D : Type 0) : Type 0 where
  pub feed : D
  pub lines : ℕ
  pub refused : Bool
  pub said : Told

-- what is seen of that, by what of the input was not taken
abbrev pub seen : {D : Type 0} → (remaining : D → Option (List ℕ)) → FeedIntake D → Intake
seen remaining x = record { unread = remaining x.feed; lines = x.lines; refused = x.refused; said = x.said }

-- The line that is said of a line that was made to fit: its number, and what was sent in its place.
abbrev pub fitted_line : (number : ℕ) → (fitted : List ℕ) → List ℕ
fitted_line number fitted =
    codes "uecp: line " ++ (decimal number ++ (codes ": fitted to " ++ (fitted ++ codes "\n")))

-- What is said of a line that gives this: of one that is refused its number and its fault, and of one that was made to
-- fit its number and what was sent in its place, as far as that could be written; and of another nothing.
abbrev pub SaysOf : Given → (number : ℕ) → (said said' : Told) → Type 0
SaysOf (Refused fault) number said said' = IsSaid said said' (error_lines (fault_at number fault))
SaysOf (Gives message (Some fitted)) number said said' =
    IsSaid said said' (fitted_line number (string_bytes fitted))
SaysOf (Gives message None) number said said' = said' ≡ said
SaysOf Nothing number said said' = said' ≡ said

-- Whether the line was refused.
abbrev pub is_refusal : Given → Bool
is_refusal (Refused fault) = true
is_refusal given = false

-- whether one of these lines was refused
abbrev pub has_refused : List (List ℕ × Given) → Bool
has_refused [] = false
has_refused ((line, given) ∷ more) = is_refusal given || has_refused more

-- One line was taken, which gives this, and that was said; then it was looked whether another is there.
pub record TakesLine (input : Input) (line : List ℕ) (given : Given) (x x' : Intake) : Type 0 where
  pub between : Option (List ℕ)
  pub taken : IsFirstLine x.unread between line
  pub waits : Keeps between x'.unread
  pub gives : GivesOne input line given
  pub lines : x'.lines ≡ min (x.lines + 1) (2 ^ 64 - 1)
  pub refused : x'.refused ≡ x.refused || is_refusal given
  pub said : SaysOf given x'.lines x.said x'.said

-- Lines were taken one after another, and nothing else was.
abbrev pub TakesLines : Input → List (List ℕ × Given) → (x x' : Intake) → Type 0
TakesLines input [] x x' = x' ≡ x
TakesLines input ((line, given) ∷ more) x x' =
    (y : Intake) × TakesLine input line given x y × TakesLines input more y x'

-- the message that a line gives, if it gives one
abbrev pub message_of : Given → List (List ℕ)
message_of (Gives message fitted) = message ∷ []
message_of given = []

-- the line gives a message
abbrev pub IsMessage : Given → Type 0
IsMessage given = (message : List ℕ) × (message_of given ≡ message ∷ [])

-- the messages that these lines give, in order
abbrev pub messages_in : List (List ℕ × Given) → List (List ℕ)
messages_in [] = []
messages_in ((line, given) ∷ more) = message_of given ++ messages_in more

-- Of all but the input nothing is changed.
abbrev pub StaysBut : (x x' : Intake) → Type 0
StaysBut x x' = x' ≡ record x { unread = x'.unread }

-- A line was taken, which gives this; or none was, and the input is at its end.
abbrev pub TakesOne : Input → (x x' : Intake) → Option Given → Type 0
TakesOne input x x' None = StaysBut x x' × NextGives input x.unread x'.unread None
TakesOne input x x' (Some given) = (line : List ℕ) × TakesLine input line given x x'

-- Nothing is said and nothing counted, since no line gives anything, for this.
abbrev pub FailsToTake : (x x' : Intake) → RunFault → Type 0
FailsToTake x x' fault = StaysBut x x' × NextFails x.unread x'.unread fault
