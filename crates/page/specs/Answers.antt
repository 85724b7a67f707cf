-- What a connection is told that asks for something (profile; RFC 9110, section 15).
use Rattle.std.specs.Prelude.{◌≡◌, ℕ, Bool, true, false, not, ◌==◌, ◌⊎◌, List, [], ◌∷◌, ◌++◌, length, codes, Option}
use Rattle.std.specs.Prelude.{if◌then◌else◌}
use Rattle.std.specs.List.{list_any}
use Rattle.serde_json.specs.Written.{compact_text}
use Rattle.http1.specs.declared.conn.BodySize.{BodySize}
use Rattle.http1.specs.declared.conn.BodySize.TheVariants.{Known, Unknown}
use Rattle.http1.specs.declared.conn.Writing.TheVariants.{Body}
use Rattle.http1.specs.declared.encode.Encoder.TheVariants.{Chunked}
use Rattle.http1.specs.declared.server.Server.{Server}
use Rattle.http1.specs.Fields.{Header}
use Rattle.http1.specs.Conn.{data_text, finish_text, after_data}
use Rattle.http1.specs.Server.{writing, planned_response, after_response}
use Rattle.page.specs.declared.clients.client.Phase.TheVariants.{Closing}
use Rattle.page.specs.declared.clients.html.TheConstants.{HTML, POLICY}
use Rattle.page.specs.declared.clients.request.Route.{Route}
use Rattle.page.specs.declared.clients.request.Route.TheVariants.{Page, Events, State, History, Metrics}
use Rattle.page.specs.declared.clients.request.Route.TheVariants.{Health, NotFound, OtherMethod, Foreign}
use Rattle.page.specs.declared.state.silence.Moment.{Moment}
use Rattle.page.specs.ControlLine.{Line}
use Rattle.page.specs.State.{State as Shown}
use Rattle.page.specs.Silence.{is_stale}
use Rattle.page.specs.Texts.{state_data, metrics, stale_texts}
use Rattle.page.specs.HistoryTexts.{history_data}
use Rattle.page.specs.Events.{Past, is_gap, due}
use Rattle.page.specs.Stream.{part_text, gap}
use Rattle.page.specs.Sending.{Standing, IsLive}
use Rattle.page.specs.Streaming.{IsStreaming}

-- What a connection is answered from: what is shown, the last events, the moment at which it is heard, and whether no
-- more connections may get events.
pub record Source : Type 0 where
  pub shown : Shown
  pub past : Past
  pub moment : Moment
  pub is_full : Bool

-- An answer: its status and the reason of that, and its body with the media type.
pub record Answer : Type 0 where
  pub status : ℕ
  pub reason : List ℕ
  pub kind : List ℕ
  pub body : List ℕ

-- What was asked for, and a sentence in plain text.
abbrev pub given : (kind body : List ℕ) → Answer
given kind body = record { status = 200; reason = codes "OK"; kind = kind; body = body }

abbrev pub plain : ℕ → (reason body : List ℕ) → Answer
plain status reason body =
    record { status = status; reason = reason; kind = codes "text/plain; charset=utf-8"; body = body }

-- That all is well; or where control lines are stale which, and for how many seconds nothing was told of each.
abbrev pub health : Moment → List Line → Answer
health moment ls =
    if list_any (is_stale moment) ls then plain 503 (codes "Service Unavailable") (stale_texts moment ls)
    else given (codes "text/plain; charset=utf-8") (codes "ok\n")

-- The answer to what is asked for; to one who asks for events, where no more may get them.
abbrev pub answer_of : Source → Route → Answer
answer_of source Page = given (codes "text/html; charset=utf-8") HTML.now
answer_of source Events = plain 503 (codes "Service Unavailable") (codes "64 get the events already\n")
answer_of source State = given (codes "application/json") (compact_text (state_data source.moment source.shown))
answer_of source History =
    given (codes "application/json") (compact_text (history_data source.moment.now source.shown))
answer_of source Metrics =
    given (codes "text/plain; version=0.0.4; charset=utf-8") (metrics source.shown source.moment)
answer_of source Health = health source.moment source.shown.lines
answer_of source NotFound = plain 404 (codes "Not Found") (codes "no such page\n")
answer_of source OtherMethod = plain 405 (codes "Method Not Allowed") (codes "only GET and HEAD are served\n")
answer_of source Foreign =
    plain 421 (codes "Misdirected Request") (codes "only the machine's own names are served here\n")

-- The answer where there was no memory for another.
abbrev pub no_memory : Answer
no_memory = plain 503 (codes "Service Unavailable") (codes "out of memory\n")

-- The fields of each answer's head: its media type, the methods that are served, and what keeps a browser from keeping
-- it, from guessing another type, and from running or loading what the page does not name.
abbrev pub answer_fields : (kind : List ℕ) → List Header
answer_fields kind =
    (codes "content-type", kind) ∷ (codes "allow", codes "GET, HEAD") ∷ (codes "cache-control", codes "no-store")
    ∷ (codes "content-security-policy", POLICY.now) ∷ (codes "x-content-type-options", codes "nosniff")
    ∷ (codes "connection", codes "close") ∷ []

-- The head of an answer, as it is sent to one whose request was read.
unfoldable pub head_text : Server → ℕ → (reason kind : List ℕ) → BodySize → List ℕ
head_text server status reason kind size = planned_response server status reason size (answer_fields kind)

-- Where the server stands behind that head.
unfoldable pub behind_head : Server → ℕ → (kind : List ℕ) → BodySize → Server
behind_head server status kind size = after_response server status size (answer_fields kind)

-- A whole answer: its head, with the length of the body, and the body.
unfoldable pub answer_text : Server → Answer → List ℕ
answer_text server a =
    let size = Known (length a.body) in
    let body = writing (behind_head server a.status a.kind size) in
    head_text server a.status a.reason a.kind size
    ++ (data_text body a.body ++ finish_text (after_data body (length a.body)) [])

-- What a stream of events begins with: its head, and that events are gone, where they are.
unfoldable pub opening_text : Server → (last : Option ℕ) → Past → List ℕ
opening_text server last past =
    head_text server 200 (codes "OK") (codes "text/event-stream") Unknown
    ++ (if is_gap last past then data_text (Body Chunked) (part_text gap) else [])

-- A stream of events is opened: they were asked for, and one more may get them.
abbrev pub opens : Source → Route → Bool
opens source Events = not source.is_full
opens source Page = false
opens source State = false
opens source History = false
opens source Metrics = false
opens source Health = false
opens source NotFound = false
opens source OtherMethod = false
opens source Foreign = false

-- What one is told who asks for this, and who names that event as the last.
abbrev pub reply_text : Source → Server → Route → (last : Option ℕ) → List ℕ
reply_text source server route last =
    if opens source route then opening_text server last source.past else answer_text server (answer_of source route)

-- A text was put behind what waited, or a beginning of it: without memory, or to one who takes no body, as behind HEAD.
pub record Tells (text before behind : List ℕ) : Type 0 where
  pub told : List ℕ
  pub rest : List ℕ
  pub output : behind ≡ before ++ told
  pub is_part : told ++ rest ≡ text

-- One is told what it asked for, or that there was no memory for it; and it gets events from then on, or is closed.
-- Where it gets events it was told the whole beginning of their stream, and is owed those from the one that is due.
pub record Replies (source : Source) (server : Server) (route : Route) (last : Option ℕ) (x x' : Standing)
    : Type 0 where
  pub tells : Tells (reply_text source server route last) x.output x'.output
      ⊎ Tells (answer_text server no_memory) x.output x'.output
  pub phase : IsLive x' ⊎ (x'.phase ≡ Closing)
  pub opened : IsLive x' → (opens source route ≡ true)
      × (x'.output ≡ x.output ++ opening_text server last source.past) × (x'.due ≡ due last source.past)
      × IsStreaming x'.writing

-- The reason of a status, of a request that can't be read.
abbrev pub reason_of : ℕ → List ℕ
reason_of status =
    if status == 414 then codes "URI Too Long"
    else if status == 431 then codes "Request Header Fields Too Large"
    else codes "Bad Request"

-- The answer to a request that can't be read.
abbrev pub refusal : ℕ → Answer
refusal status = plain status (reason_of status) (codes "not a request that is read here\n")
