-- The lines that a run writes: TAP version 14, or objects of JSON (profile).
use Rattle.std.specs.Prelude.{ℕ, ◌+◌, ◌==◌, ◌&&◌, ◌||◌, nat_le, nat_lt, Bool, true, false, List, [], ◌∷◌, ◌++◌, map}
use Rattle.std.specs.Prelude.{flat_map, length, codes, take, not, Ok, Err}
use Rattle.std.specs.Prelude.{decimal}
use Rattle.std.specs.Prelude.{if◌then◌else◌}
use Rattle.hex.specs.Hex.{encode_upper}
use Rattle.rds_text.specs.declared.programme_type.Region.TheVariants.{Europe}
use Rattle.serde_json.specs.Data.{string, boolean}
use Rattle.uecp_frame.specs.declared.frame.Frame.{Frame}
use Rattle.uecp_frame.specs.Fault.{number_of, name_of}
use Rattle.uecp_frame.specs.Findings.{Finding, found}
use Rattle.uecp_frame.specs.Frame.{spelling}
use Rattle.uecp_text.specs.Digits.{byte_word, decimal_word, row_word}
use Rattle.uecp_lines.specs.Lines.{dropped_line}
use Rattle.phrase_scripts.specs.Lines.{heading_line, message_text}
use Rattle.json_lines.specs.Objects.{Field, in_decimal, in_digits, line_of}
use Rattle.conformance.specs.declared.case.Case.{Case}
use Rattle.conformance.specs.Judging.{reply_frame}
use Rattle.conformance.specs.Noise.{noise}
use Rattle.conformance.specs.Sending.{case_sent, case_wants}
use Rattle.conformance.specs.declared.verdict.Reply.{Reply}
use Rattle.conformance.specs.declared.verdict.Expected.{Expected}
use Rattle.conformance.specs.declared.verdict.Expected.TheVariants.{This, Refusal}
use Rattle.conformance.specs.declared.verdict.Verdict.{Verdict}
use Rattle.conformance.specs.declared.verdict.Verdict.TheVariants.{Kept, Missing, Another, TooMany, NoReply, Dropped}
use Rattle.conformance_command.specs.declared.went.Went.{Went}
use Rattle.conformance_command.specs.declared.way.Way.{Way}
use Rattle.conformance_command.specs.declared.went.Went.TheVariants.{Judged, NotJoined, Silent, Floods, NotSent}
use Rattle.conformance_command.specs.declared.went.Went.TheVariants.{NotQuiet, NotHeard}
use Rattle.conformance_command.specs.declared.tally.Tally.{Tally}
use Rattle.conformance_command.specs.Choosing.{is_kept}

-- A byte as it is shown: a character of ASCII that has a picture, or the space, as it is, and any other as `?`.
abbrev pub shown_byte : ℕ → ℕ
shown_byte byte = if nat_le 0x20 byte && nat_lt byte 0x7F then byte else 0x3F

-- The bytes of a name or of a rule as they are shown.
abbrev pub shown : List ℕ → List ℕ
shown text = map shown_byte text

-- ---- TAP.

-- a reply by its counter and its code
abbrev pub reply_words : Reply → List ℕ
reply_words reply = codes "reply" ++ (byte_word reply.counter ++ byte_word reply.code)

-- what is wanted: a reply, or any refusal of the message of a counter
abbrev pub expected_words : Expected → List ℕ
expected_words (This reply) = reply_words reply
expected_words (Refusal counter) = codes "refusal" ++ byte_word counter

-- the first place where what came is not what is wanted
abbrev pub verdict_words : Verdict → List ℕ
verdict_words Kept = []
verdict_words (Missing reply) = codes "wanted " ++ (expected_words reply ++ codes ", came nothing")
verdict_words (Another reply came) = codes "wanted " ++ (expected_words reply ++ (codes ", came " ++ reply_words came))
verdict_words (TooMany came) = codes "wanted nothing, came " ++ reply_words came
verdict_words NoReply = codes "came a frame that is no reply"
verdict_words (Dropped fault) = codes "came a segment that is no frame: " ++ name_of fault

-- why a case is not kept
abbrev pub why_words : Went → List ℕ
why_words (Judged verdict) = verdict_words verdict
why_words NotJoined = codes "not joined"
why_words Silent = codes "not joined"
why_words Floods = codes "floods"
why_words (NotSent written) = codes "not sent behind byte" ++ decimal_word written
why_words NotQuiet = codes "never quiet"
why_words NotHeard = codes "out of memory"

-- A name as a line of TAP has it: with a backslash before each `#` and each backslash.
abbrev pub tap_byte : ℕ → List ℕ
tap_byte byte = if byte == 0x23 || byte == 0x5C then 0x5C ∷ byte ∷ [] else byte ∷ []

abbrev pub tap_name : List ℕ → List ℕ
tap_name name = flat_map tap_byte name

-- What stands behind the name of a case: that it is this project's own, by TAP's directive for a test that may fail
-- where it is not kept; and why it is not.
abbrev pub note : (profile : Bool) → Went → List ℕ
note profile went =
    if is_kept went then (if profile then codes " # profile" else [])
    else (if profile then codes " # TODO profile, " else codes " # ") ++ why_words went

-- The line of a case.
abbrev pub tap_line : (number : ℕ) → Case → Went → List ℕ
tap_line number case went = (if is_kept went then codes "ok" else codes "not ok")
    ++ (decimal_word number ++ (codes " - " ++ (tap_name (shown case.name.now)
    ++ (note case.profile went ++ codes "\n"))))

-- A comment with a number, where it is not 0.
abbrev pub count_note : (text : List ℕ) → (count : ℕ) → List ℕ
count_note text count = if count == 0 then [] else codes "# " ++ (text ++ (decimal_word count ++ codes "\n"))

-- What says nothing of the rule, and is told: how many bytes joining had left, which were read away; and how many came
-- then that are no part of a segment.
abbrev pub notes : (left : ℕ) → (came : List ℕ) → List ℕ
notes left came = count_note (codes "bytes left by joining:") left
    ++ count_note (codes "bytes that are no part of a segment:") (noise came)

-- ---- What was sent, wanted and came.

-- The message of a frame in words, as `show --words` writes it, and no line for an empty one.
unfoldable pub message_note : (message : List ℕ) → List ℕ
message_note message =
    if length message == 0 then [] else codes "#   " ++ (message_text Europe message ++ codes "\n")

-- The lines of a frame, as `show --words` writes them, each a comment.
abbrev pub frame_note : Frame → List ℕ
frame_note f = codes "#   " ++ (heading_line f ++ message_note f.message)

-- The lines of a finding, as `show --words` writes them, each a comment.
abbrev pub found_note : Finding → List ℕ
found_note (Ok f) = frame_note f
found_note (Err fault) = codes "#   # " ++ dropped_line fault

-- Bytes, behind a word for what they are, in hexadecimal; and what is found in them, in words.
unfoldable pub bytes_note : (word bytes : List ℕ) → List ℕ
bytes_note word bytes =
    codes "# " ++ (word ++ (row_word bytes ++ (codes "\n" ++ flat_map found_note (found bytes))))

-- A reply that is wanted, in hexadecimal; any refusal to a counter has no bytes of its own.
abbrev pub expected_bytes : (own : ℕ) → Expected → List ℕ
expected_bytes own (This reply) = codes " " ++ encode_upper (spelling (reply_frame own reply))
expected_bytes own (Refusal counter) = codes " refusal" ++ byte_word counter

-- The same in words.
abbrev pub expected_note : (own : ℕ) → Expected → List ℕ
expected_note own (This reply) = frame_note (reply_frame own reply)
expected_note own (Refusal counter) = codes "#   refusal" ++ (byte_word counter ++ codes "\n")

-- The replies that are wanted, in hexadecimal and in words.
unfoldable pub wanted_note : (own : ℕ) → List Expected → List ℕ
wanted_note own replies = codes "# wanted" ++ ((if length replies == 0 then codes " -" else [])
    ++ (flat_map (expected_bytes own) replies ++ (codes "\n" ++ flat_map (expected_note own) replies)))

-- What was sent of the bytes of a case that went so.
abbrev pub sent_of : Went → (bytes : List ℕ) → List ℕ
sent_of NotJoined bytes = []
sent_of Silent bytes = []
sent_of Floods bytes = []
sent_of (NotSent written) bytes = take written bytes
sent_of went bytes = bytes

-- What was sent, wanted and came of a case that is not kept, where that is asked for.
unfoldable pub exchange_notes : Way → Case → Went → (came : List ℕ) → List ℕ
exchange_notes way case went came =
    if way.verbose && not (is_kept went) then
    bytes_note (codes "sent") (sent_of went (case_sent way.own case.steps.items))
    ++ (wanted_note way.own (case_wants case.steps.items) ++ bytes_note (codes "came") came)
    else []

-- The line that ends a run behind a case of which nothing came.
abbrev pub silent_line : (seconds : ℕ) → Went → List ℕ
silent_line seconds Silent = codes "Bail out! nothing came for" ++ (decimal_word seconds ++ codes " s\n")
silent_line seconds went = []

-- The lines of a case.
abbrev pub tap_lines : Way → (number : ℕ) → Case → Went → (left : ℕ) → (came : List ℕ) → List ℕ
tap_lines way number case went left came = tap_line number case went
    ++ (notes left came ++ (exchange_notes way case went came ++ silent_line way.seconds went))

-- The line of what was counted: how many cases are kept, how many are not, and how many of those don't count.
abbrev pub tap_tally : Tally → List ℕ
tap_tally tally = codes "#" ++ (decimal_word tally.kept ++ (codes " kept,"
    ++ (decimal_word (tally.not_kept + tally.profile_not_kept) ++ (codes " not kept,"
    ++ (decimal_word tally.profile_not_kept ++ codes " of them profile\n")))))

-- ---- JSON.

-- the reply that is wanted, and the one that came, by counter and code
abbrev pub wanted_fields : Expected → List Field
wanted_fields (This reply) =
    (codes "wanted_counter", in_decimal reply.counter) ∷ (codes "wanted_code", in_digits (reply.code ∷ [])) ∷ []
wanted_fields (Refusal counter) =
    (codes "wanted_counter", in_decimal counter) ∷ (codes "wanted_refusal", boolean true) ∷ []

abbrev pub came_fields : Reply → List Field
came_fields reply =
    (codes "came_counter", in_decimal reply.counter) ∷ (codes "came_code", in_digits (reply.code ∷ [])) ∷ []

-- the verdict, and its parts
abbrev pub verdict_fields : Verdict → List Field
verdict_fields Kept = (codes "verdict", string (codes "kept")) ∷ []
verdict_fields (Missing reply) = (codes "verdict", string (codes "missing")) ∷ wanted_fields reply
verdict_fields (Another reply came) =
    (codes "verdict", string (codes "another")) ∷ (wanted_fields reply ++ came_fields came)
verdict_fields (TooMany came) = (codes "verdict", string (codes "too_many")) ∷ came_fields came
verdict_fields NoReply = (codes "verdict", string (codes "no_reply")) ∷ []
verdict_fields (Dropped fault) = (codes "verdict", string (codes "dropped"))
    ∷ (codes "fault", in_decimal (number_of fault))
    ∷ (codes "fault_name", string (name_of fault)) ∷ []

-- how it went
abbrev pub went_fields : Went → List Field
went_fields (Judged verdict) = verdict_fields verdict
went_fields NotJoined = (codes "verdict", string (codes "not_joined")) ∷ []
went_fields Silent = (codes "verdict", string (codes "silent")) ∷ []
went_fields Floods = (codes "verdict", string (codes "floods")) ∷ []
went_fields (NotSent written) =
    (codes "verdict", string (codes "not_sent")) ∷ (codes "written", in_decimal written) ∷ []
went_fields NotQuiet = (codes "verdict", string (codes "not_quiet")) ∷ []
went_fields NotHeard = (codes "verdict", string (codes "not_heard")) ∷ []

-- what a case is
abbrev pub case_fields : (number : ℕ) → Case → (kept : Bool) → List Field
case_fields number case kept =
    (codes "number", in_decimal number) ∷ (codes "name", string (shown case.name.now))
    ∷ (codes "group", string (shown case.group.now)) ∷ (codes "rule", string (shown case.rule.now))
    ∷ (codes "profile", boolean case.profile) ∷ (codes "kept", boolean kept) ∷ []

-- a number, where it is not 0
abbrev pub count_fields : (name : List ℕ) → (count : ℕ) → List Field
count_fields name count = if count == 0 then [] else (name, in_decimal count) ∷ []

-- what says nothing of the rule
abbrev pub note_fields : (left noise : ℕ) → List Field
note_fields left noise = count_fields (codes "left") left ++ count_fields (codes "noise") noise

-- The line of a case.
abbrev pub case_object : (number : ℕ) → Case → Went → (left noise : ℕ) → List ℕ
case_object number case went left noise =
    line_of (codes "case") (case_fields number case (is_kept went) ++ (went_fields went ++ note_fields left noise))

-- how many cases were run, and how many of them are kept and are not
abbrev pub tally_fields : (cases : ℕ) → Tally → List Field
tally_fields cases tally =
    (codes "cases", in_decimal cases) ∷ (codes "kept", in_decimal tally.kept)
    ∷ (codes "not_kept", in_decimal tally.not_kept) ∷ (codes "profile_not_kept", in_decimal tally.profile_not_kept) ∷ []

-- The object of that.
abbrev pub tally_object : (cases : ℕ) → Tally → List ℕ
tally_object cases tally = line_of (codes "conformance") (tally_fields cases tally)

-- ---- A whole run.

-- What stands first: of TAP its version, and how many cases there are.
abbrev pub first_line : (json : Bool) → (cases : ℕ) → List ℕ
first_line true cases = []
first_line false cases = codes "TAP version 14\n1.." ++ (decimal cases ++ codes "\n")

-- The lines of a case that went so, with so many bytes that joining left, and these that came.
unfoldable pub case_lines : Way → (number : ℕ) → Case → Went → (left : ℕ) → (came : List ℕ) → List ℕ
case_lines way number case went left came =
    if way.json then case_object number case went left (noise came) else tap_lines way number case went left came

-- What is written where there is no connection to be had.
abbrev pub bail_line : (json : Bool) → List ℕ
bail_line true = []
bail_line false = codes "Bail out! connection failed\n"

-- What stands last: what was counted.
abbrev pub last_line : (json : Bool) → (cases : ℕ) → Tally → List ℕ
last_line true cases tally = tally_object cases tally
last_line false cases tally = tap_tally tally
