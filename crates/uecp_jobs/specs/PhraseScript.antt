-- What the lines of a phrase script do: each message becomes a frame of its own (profile).
use Rattle.std.specs.Prelude.{◌≡◌, ℕ, Bool, true, false, if◌then◌else◌, List, [], Some}
use Rattle.uecp_frame.specs.declared.frame.Frame.{Frame}
use Rattle.uecp_link.specs.Counters.{next_counter}
use Rattle.rds_text.specs.declared.programme_type.Region.{Region}
use Rattle.phrase_scripts.specs.Lines.{Line, Begins, Says, SaysLine, SaysNothing, IsUnsaid}
use Rattle.uecp_text.specs.Run.{Meaning, Brings, Ends, Refuses}
use Rattle.uecp_jobs.specs.FrameScript.{spelled_line}

-- Under which address and counter the next message goes, and whether a line named them for a message that has not come
-- yet.
pub record Heading : Type 0 where
  pub address : ℕ
  pub counter : ℕ
  pub is_named : Bool

-- At first: site 1, encoder 1, counter 01.
abbrev pub first_heading : Heading
first_heading = record { address = 0x0041; counter = 0x01; is_named = false }

-- The line of the frame in which a message goes.
abbrev pub sent_line : Heading → (message : List ℕ) → List ℕ
sent_line h message = spelled_line (Some (record { address = h.address; counter = h.counter; message = message }))

-- Where an address and a counter were named and no message came, a frame with no message goes.
abbrev pub left_line : Heading → List ℕ
left_line h = if h.is_named then sent_line h [] else []

-- What a line does, with the lines that it writes: it names an address and a counter; or its message goes, and the next
-- one has the counter after it, 01 after FF and 00.
abbrev pub DoesPhrase : (before : Heading) → Line → (lines : List ℕ) → (after : Heading) → Type 0
DoesPhrase before (Begins address counter) lines after =
    (lines ≡ left_line before) × (after ≡ record { address = address; counter = counter; is_named = true })
DoesPhrase before (Says message) lines after =
    (lines ≡ sent_line before message)
    × (after ≡ record { address = before.address; counter = next_counter before.counter; is_named = false })

-- What a line of the script makes: the lines that it writes; a line that says nothing is refused, and changes nothing.
abbrev pub MakesWords : Region → Meaning Heading
MakesWords region before text (Brings lines) after =
    (line : Line) × SaysLine region text line × DoesPhrase before line lines after
MakesWords region before text (Ends lines) after = ⊥
MakesWords region before text (Refuses why) after =
    (after ≡ before) × IsUnsaid why × SaysNothing region text
