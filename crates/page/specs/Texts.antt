-- What is told of the state: as JSON, and as metrics (profile; the text form of Prometheus, version 0.0.4).
use Rattle.std.specs.Prelude.{ℕ, ◌==◌, Bool, List, [], ◌∷◌, ◌++◌, length, codes, decimal, Option, Some, None}
use Rattle.std.specs.Prelude.{option_map, flat_map, if◌then◌else◌}
use Rattle.serde_json.specs.Data.{Data, null, boolean, number, unsigned, string, array, object, Items, no_items, item}
use Rattle.serde_json.specs.Data.{Members, no_members, member}
use Rattle.page.specs.Shown.{Service}
use Rattle.page.specs.Counts.{Counts}
use Rattle.page.specs.declared.state.metrics.Metric.{Metric}
use Rattle.page.specs.declared.state.metrics.Metric.TheVariants.{Lines, Sent, SentRefusals, Messages, Repeats}
use Rattle.page.specs.declared.state.metrics.Metric.TheVariants.{Refusals, Dropped, Connections, NotTold, Connected}
use Rattle.page.specs.declared.state.metrics.Metric.TheVariants.{Refused, RefusedLines, Silent}
use Rattle.page.specs.declared.state.silence.Moment.{Moment}
use Rattle.page.specs.declared.state.announced.Announcement.{Announcement}
use Rattle.page.specs.Announced.{since_of, seconds_since}
use Rattle.page.specs.Link.{Linked, Refusal, RefusedLine, link_kind, is_bad}
use Rattle.page.specs.ControlLine.{Line, air_shown}
use Rattle.page.specs.Minutes.{minute_of, last_hour}
use Rattle.page.specs.Silence.{silent, is_stale}
use Rattle.page.specs.State.{State}

abbrev pub text_data : Option (List ℕ) → Data
text_data None = null
text_data (Some text) = string text

abbrev pub flag_data : Option Bool → Data
flag_data None = null
flag_data (Some b) = boolean b

abbrev pub number_data : Option ℕ → Data
number_data None = null
number_data (Some n) = number (unsigned n)

-- For how many whole seconds an announcement of a service is on, where one is.
abbrev pub announced_data : (now : ℕ) → List Announcement → Service → Data
announced_data now on s = number_data (option_map (seconds_since now) (since_of s.set s.service on))

-- A service as an object, its members in the order of their names, where these announcements are on.
abbrev pub service_data : (now : ℕ) → List Announcement → Service → Data
service_data now on s = object (member (codes "announced") (announced_data now on s)
    (member (codes "main") (boolean s.main) (member (codes "name") (text_data s.name)
    (member (codes "pi") (text_data s.pi) (member (codes "pty") (number_data s.pty)
    (member (codes "rt") (text_data s.rt) (member (codes "service") (number (unsigned s.service))
    (member (codes "set") (number (unsigned s.set)) (member (codes "ta") (flag_data s.ta)
    (member (codes "tp") (flag_data s.tp) no_members))))))))))

abbrev pub services_data : (now : ℕ) → List Announcement → List Service → Items
services_data now on [] = no_items
services_data now on (s ∷ ss) = item (service_data now on s) (services_data now on ss)

abbrev pub counts_data : Counts → Data
counts_data c = object (member (codes "connections") (number (unsigned c.connections))
    (member (codes "dropped") (number (unsigned c.dropped)) (member (codes "empty") (number (unsigned c.empty))
    (member (codes "lines") (number (unsigned c.lines)) (member (codes "messages") (number (unsigned c.messages))
    (member (codes "not_told") (number (unsigned c.not_told))
    (member (codes "refusals") (number (unsigned c.refusals))
    (member (codes "refused_lines") (number (unsigned c.refused_lines))
    (member (codes "repeats") (number (unsigned c.repeats))
    (member (codes "sent") (number (unsigned c.sent))
    (member (codes "sent_refusals") (number (unsigned c.sent_refusals)) no_members)))))))))))

-- What was told of the connection: the kind of the objects that tell it, since when, and the status with which sending
-- ended; null where nothing was.
abbrev pub link_data : Option Linked → Data
link_data None = null
link_data (Some l) = string (link_kind l.link)

abbrev pub since_data : Option Linked → Data
since_data None = null
since_data (Some l) = text_data l.since

abbrev pub status_data : Option Linked → Data
status_data None = null
status_data (Some l) = number_data l.status

abbrev pub refused_data : Option Refusal → Data
refused_data None = null
refused_data (Some r) =
    object (member (codes "meaning") (text_data r.meaning) (member (codes "time") (text_data r.time) no_members))

abbrev pub numbers_data : List ℕ → Items
numbers_data [] = no_items
numbers_data (n ∷ ns) = item (number (unsigned n)) (numbers_data ns)

-- The last line, where it was refused; null where it was not.
abbrev pub refused_line_data : Option RefusedLine → Data
refused_line_data None = null
refused_line_data (Some r) = object (member (codes "column") (number_data r.column)
    (member (codes "meaning") (text_data r.meaning) (member (codes "number") (number_data r.number)
    (member (codes "text") (text_data r.text) (member (codes "time") (text_data r.time) no_members)))))

-- By which end it is known what is on the air.
abbrev pub end_of : (has_encoder : Bool) → List ℕ
end_of has_encoder = if has_encoder then codes "encoder" else codes "studio"

-- A control line as an object, where the page's clock says now.
abbrev pub line_data : (now : ℕ) → Line → Data
line_data now l = object (member (codes "counts") (counts_data l.counts)
    (member (codes "current") (number (unsigned (air_shown l).current))
    (member (codes "end") (string (end_of l.has_encoder)) (member (codes "failed") (boolean l.failed)
    (member (codes "heard") (text_data l.heard) (member (codes "line") (string l.name)
    (member (codes "link") (link_data l.linked)
    (member (codes "minutes") (array (numbers_data (last_hour (minute_of now) l.minutes)))
    (member (codes "refused") (refused_data l.refused)
    (member (codes "refused_line") (refused_line_data l.refused_line)
    (member (codes "services") (array (services_data now l.announced (air_shown l).services))
    (member (codes "silent") (number (unsigned (silent now l)))
    (member (codes "since") (since_data l.linked)
    (member (codes "status") (status_data l.linked) no_members))))))))))))))

-- The members that come first of these.
abbrev pub line_head : Line → Members
line_head l = member (codes "counts") (counts_data l.counts)
    (member (codes "current") (number (unsigned (air_shown l).current))
    (member (codes "end") (string (end_of l.has_encoder)) (member (codes "failed") (boolean l.failed)
    (member (codes "heard") (text_data l.heard) (member (codes "line") (string l.name)
    (member (codes "link") (link_data l.linked) no_members))))))

abbrev pub lines_data : (now : ℕ) → List Line → Items
lines_data now [] = no_items
lines_data now (l ∷ ls) = item (line_data now l) (lines_data now ls)

-- The state as an object of the kind `state`.
abbrev pub state_data : Moment → State → Data
state_data moment s = object (member (codes "format") (number (unsigned 1))
    (member (codes "further") (number (unsigned s.further)) (member (codes "kind") (string (codes "state"))
    (member (codes "lines") (array (lines_data moment.now s.lines))
    (member (codes "others") (number (unsigned s.others))
    (member (codes "stale") (number_data moment.stale) no_members))))))

-- Two lines that say what the metric of this name is, and of which kind.
unfoldable pub headed : (name help which : List ℕ) → List ℕ
headed name help which = codes "# HELP " ++ (name ++ (codes " " ++ (help ++ (codes "\n# TYPE " ++ (name ++ which)))))

-- A value of a label: a backslash, a double quote and a line feed are written with a backslash before them.
abbrev pub escaped_byte : ℕ → List ℕ
escaped_byte b =
    if b == 92 then codes "\\\\" else if b == 34 then codes "\\\"" else if b == 10 then codes "\\n" else b ∷ []

abbrev pub escaped : List ℕ → List ℕ
escaped text = flat_map escaped_byte text

-- The labels of a control line, with what stands behind its name; a value, which ends the line.
unfoldable pub labels : (line more : List ℕ) → List ℕ
labels line more = codes "{line=\"" ++ (escaped line ++ (codes "\"" ++ (more ++ codes "}")))

unfoldable pub ended : ℕ → List ℕ
ended n = codes " " ++ (decimal n ++ codes "\n")

-- A value of the metric of this name for a control line.
abbrev pub labelled : (name line more : List ℕ) → ℕ → List ℕ
labelled name line more n = name ++ (labels line more ++ ended n)

-- 1 where it is so, else 0.
abbrev pub is_connected : Linked → ℕ
is_connected l = if is_bad l.link then 0 else 1

abbrev pub is_refused : Option Refusal → ℕ
is_refused None = 0
is_refused (Some r) = 1

-- What a metric says of a control line; None where nothing was told of it.
abbrev pub value_of : Metric → Line → Option ℕ
value_of Lines l = Some l.counts.lines
value_of Sent l = Some l.counts.sent
value_of SentRefusals l = Some l.counts.sent_refusals
value_of RefusedLines l = Some l.counts.refused_lines
value_of Messages l = Some l.counts.messages
value_of Repeats l = Some l.counts.repeats
value_of Refusals l = Some l.counts.refusals
value_of Dropped l = Some l.counts.dropped
value_of Connections l = Some l.counts.connections
value_of NotTold l = Some l.counts.not_told
value_of Connected l = option_map is_connected l.linked
value_of Refused l = Some (is_refused l.refused)
value_of (Silent now) l = Some (silent now l)

abbrev pub sample_of : (name more line : List ℕ) → Option ℕ → List ℕ
sample_of name more line None = []
sample_of name more line (Some n) = labelled name line more n

abbrev pub sample : (name more : List ℕ) → Metric → Line → List ℕ
sample name more metric l = sample_of name more l.name (value_of metric l)

-- One for each control line.
abbrev pub samples : (name more : List ℕ) → Metric → List Line → List ℕ
samples name more metric ls = flat_map (sample name more metric) ls

-- A metric of each control line.
abbrev pub metric_of : (name help which : List ℕ) → Metric → List Line → List ℕ
metric_of name help which metric ls = headed name help which ++ samples name [] metric ls

-- A count that both ends tell of each control line.
abbrev pub both_of : (name help : List ℕ) → (studio encoder : Metric) → List Line → List ℕ
both_of name help studio encoder ls =
    headed name help (codes " counter\n") ++ (samples name (codes ",end=\"studio\"") studio ls
    ++ samples name (codes ",end=\"encoder\"") encoder ls)

abbrev pub count_of : (name help : List ℕ) → Metric → List Line → List ℕ
count_of name help metric ls = metric_of name help (codes " counter\n") metric ls

abbrev pub gauge_of : (name help : List ℕ) → Metric → List Line → List ℕ
gauge_of name help metric ls = metric_of name help (codes " gauge\n") metric ls

-- A metric of the page as a whole.
abbrev pub valued : (name help which : List ℕ) → ℕ → List ℕ
valued name help which n = headed name help which ++ (name ++ ended n)

abbrev pub since : Option ℕ → List ℕ
since None = []
since (Some seconds) =
    valued (codes "uecp_last_message_seconds") (codes "Seconds since the last message.") (codes " gauge\n") seconds

-- What was counted of each control line.
abbrev pub counted_texts : List Line → List ℕ
counted_texts ls =
    count_of (codes "uecp_lines_total") (codes "Objects that were taken.") Lines ls
    ++ (both_of (codes "uecp_messages_total") (codes "Messages that an end of the line told.") Sent Messages ls
    ++ (both_of (codes "uecp_refusals_total") (codes "Messages that were refused with a code.") SentRefusals Refusals ls
    ++ (count_of (codes "uecp_refused_lines_total") (codes "Lines that the studio's end refused.") RefusedLines ls
    ++ (count_of (codes "uecp_repeats_total") (codes "Messages that came again.") Repeats ls
    ++ (count_of (codes "uecp_dropped_segments_total") (codes "Segments that were no frame.") Dropped ls
    ++ (count_of (codes "uecp_connections_total") (codes "Connections to an encoder.") Connections ls
    ++ count_of (codes "uecp_not_told_lines_total") (codes "Lines that an end could not tell, as nobody read them.")
    NotTold ls))))))

-- How each stands now.
abbrev pub standing_texts : (now : ℕ) → List Line → List ℕ
standing_texts now ls =
    gauge_of (codes "uecp_connected") (codes "1 where the studio's end is connected, else 0.") Connected ls
    ++ (gauge_of (codes "uecp_refused") (codes "1 where the last message was refused, else 0.") Refused ls
    ++ gauge_of (codes "uecp_line_silent_seconds") (codes "Seconds since something was told of the line.") (Silent now)
    ls)

-- The metrics: of each control line, of the lines of input that are of none, and how many seconds ago the last message
-- came, where one did.
abbrev pub metrics : State → Moment → List ℕ
metrics s moment =
    counted_texts s.lines ++ (standing_texts moment.now s.lines
    ++ (valued (codes "uecp_other_lines_total") (codes "Lines that are no object of ours.") (codes " counter\n")
    s.others
    ++ (valued (codes "uecp_further_total") (codes "Objects of control lines that are shown nowhere.")
    (codes " counter\n") s.further
    ++ since moment.seconds)))

-- The name of a control line in a line of plain text: escaped as in a label, so that it ends no line, and `-` where it
-- has none.
abbrev pub name_text : (name : List ℕ) → List ℕ
name_text name = if length name == 0 then codes "-" else escaped name

-- For how many seconds nothing was told of it, as a line of text.
unfoldable pub silence_text : (now : ℕ) → Line → List ℕ
silence_text now l = name_text l.name ++ (codes ": " ++ (decimal (silent now l) ++ codes " s\n"))

abbrev pub stale_text : Moment → Line → List ℕ
stale_text moment l = if is_stale moment l then silence_text moment.now l else []

-- A line for each that is stale.
abbrev pub stale_texts : Moment → List Line → List ℕ
stale_texts moment ls = flat_map (stale_text moment) ls
