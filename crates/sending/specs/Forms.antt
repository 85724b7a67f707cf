-- What is told of a server whose lines come as they like, in each form: words make no difference (profile).
use Rattle.std.specs.Prelude.{◌≡◌, ℕ, zero, suc, Bool, true, false, List, [], ◌∷◌, ◌++◌, if◌then◌else◌}
use Rattle.std.specs.List.{list_all}
use Rattle.uecp_elements.specs.declared.code.Code.{Code}
use Rattle.uecp_net.specs.declared.sender.Settled.{Settled}
use Rattle.uecp_jobs.specs.JoiningFirst.{joined_line, not_joined_line}
use Rattle.kept_jobs.specs.ServerRun.{taken_line, given_up_line}
use Rattle.output_forms.specs.declared.form.Form.{Form}
use Rattle.output_forms.specs.declared.form.Form.TheVariants.{Lines, Words, Json}
use Rattle.json_lines.specs.Stamps.{IsStamp}
use Rattle.uecp_json.specs.Steps as steps
use Rattle.sending.specs.Objects as objects
use Rattle.sending.specs.Lines as lines

-- ---- The beginning.

-- how many messages were taken since the state was made, and how many of them wait
abbrev pub taken_in : Form → (taken outstanding : ℕ) → List ℕ
taken_in Lines taken outstanding = taken_line taken outstanding
taken_in (Words region) taken outstanding = taken_line taken outstanding
taken_in Json taken outstanding = objects.progress_line taken outstanding

-- the object of how many messages are given up; nothing where there are none
abbrev pub given_up_object : (outstanding : ℕ) → List ℕ
given_up_object zero = []
given_up_object (suc n) = steps.given_up_line (suc n)

-- how many messages are given up; nothing where there are none
abbrev pub given_up_in : Form → (outstanding : ℕ) → List ℕ
given_up_in Lines outstanding = given_up_line outstanding
given_up_in (Words region) outstanding = given_up_line outstanding
given_up_in Json outstanding = given_up_object outstanding

-- ---- The answers.

-- These lines tell of these messages, the first of which has this number, each sent under its counter, that were
-- settled so. In JSON they tell some time, and some number of milliseconds.
abbrev pub AreReplies : Form → (first : ℕ) → (sent : List (ℕ × List ℕ)) → Settled → (told : List ℕ) → Type 0
AreReplies Lines first sent settled told = told ≡ lines.reply_lines first settled.codes.items
AreReplies (Words region) first sent settled told = told ≡ lines.reply_lines first settled.codes.items
AreReplies Json first sent settled told = (stamp : List ℕ) × (milliseconds : ℕ) × IsStamp stamp
    × (told ≡ objects.answer_lines stamp settled.tries milliseconds first sent settled.codes.items)

-- These lines tell of messages that were held, of which the first has this number, and of which those that are not
-- marked so are these, which waited each under its counter and were settled so. In JSON likewise.
abbrev pub AreHeld : Form → (first : ℕ) → (marks : List Bool) → (sent : List (ℕ × List ℕ)) → Settled
    → (told : List ℕ) → Type 0
AreHeld Lines first marks sent settled told = told ≡ lines.held_lines first marks settled.codes.items
AreHeld (Words region) first marks sent settled told = told ≡ lines.held_lines first marks settled.codes.items
AreHeld Json first marks sent settled told = (stamp : List ℕ) × (milliseconds : ℕ) × IsStamp stamp
    × (told ≡ objects.held_lines stamp settled.tries milliseconds first marks sent settled.codes.items)

-- that can't be known of so many messages whether they were applied, the first of which has this number
abbrev pub unknown_in : Form → (first count : ℕ) → List ℕ
unknown_in Lines first count = lines.unknown_lines first count
unknown_in (Words region) first count = lines.unknown_lines first count
unknown_in Json first count = objects.unknown_lines first count

-- ---- The station.

-- of messages of the station, the first of which has this number and which were answered with these codes, those that
-- the encoder refused
abbrev pub refused_in : Form → (first : ℕ) → List Code → List ℕ
refused_in Lines first told = lines.refused_lines first told
refused_in (Words region) first told = lines.refused_lines first told
refused_in Json first told = objects.refused_lines first told

-- that an encoder was joined
abbrev pub joined_in : Form → List ℕ
joined_in Lines = joined_line true
joined_in (Words region) = joined_line true
joined_in Json = objects.joined_line true

-- that it could not be joined
abbrev pub not_joined_in : Form → List ℕ
not_joined_in Lines = not_joined_line
not_joined_in (Words region) = not_joined_line
not_joined_in Json = objects.joined_line false

-- the object of a station that was applied; nothing where a message was not, or it has none
abbrev pub applied_object : (station : List (List ℕ)) → (all : Bool) → List ℕ
applied_object [] all = []
applied_object (message ∷ station) all = if all then objects.station_applied_line else []

-- that all messages of the station were applied; nothing where one was not, or it has none
abbrev pub applied_in : Form → (station : List (List ℕ)) → (all : Bool) → List ℕ
applied_in Lines station all = lines.applied_line station all
applied_in (Words region) station all = lines.applied_line station all
applied_in Json station all = applied_object station all

-- what is told of an encoder that was joined, and answered the messages of the station with these codes
abbrev pub station_in : Form → (station : List (List ℕ)) → (told : List Code) → List ℕ
station_in form station told =
    (joined_in form ++ refused_in form 1 told) ++ applied_in form station (list_all lines.is_applied told)
