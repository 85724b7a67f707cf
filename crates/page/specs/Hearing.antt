-- What a connection is told on the bytes that came of its request (profile; RFC 9112).
use Rattle.std.specs.Prelude.{◌≡◌, ◌<◌, ◌⊎◌, ℕ, Bool, List, Option, length, map}
use Rattle.httparse.specs.Grammar.{RequestHead, HasNoRequest, MayBecomeRequest}
use Rattle.httparse.specs.Spans.{name_and_value}
use Rattle.http1.specs.declared.error.ReadError.{ReadError}
use Rattle.http1.specs.declared.framing.Framing.{Framing}
use Rattle.http1.specs.declared.conn.Reading.TheVariants as Reads
use Rattle.http1.specs.declared.server.Server.{Server}
use Rattle.http1.specs.Decoder.{decoder_for}
use Rattle.http1.specs.Message.{AcceptsRequest}
use Rattle.http1.specs.ReadError.{status_of}
use Rattle.http1.specs.Server.{request_of, failed_server, ServerRefuses}
use Rattle.page.specs.declared.clients.client.Phase.TheVariants.{Closing}
use Rattle.page.specs.Asking.{asked_route, NamesLast}
use Rattle.page.specs.Answers.{Source, Tells, Replies, answer_text, refusal}
use Rattle.page.specs.Fresh.{limits, fresh}
use Rattle.page.specs.Sending.{Standing}

-- The fields of a head: each name, and the value without the white space around it.
abbrev pub fields_of : RequestHead → List (List ℕ × List ℕ)
fields_of head = map name_and_value head.fields

-- Where the machine stands that has read this head, and is to answer it.
unfoldable pub answering : RequestHead → Framing → Server
answering head framing =
    record fresh { reading = Reads.Body (decoder_for limits framing); request = request_of head framing }

-- The bytes begin with the head of a request, and it is answered as what this head asks for, its field `Host` and no
-- other deciding whether it is served.
pub record IsAnswered (source : Source) (own_only : Bool) (came : List ℕ) (x x' : Standing) : Type 0 where
  pub head : RequestHead
  pub framing : Framing
  pub rest : List ℕ
  pub accepts : AcceptsRequest limits came head framing rest
  pub last : Option ℕ
  pub names : NamesLast (fields_of head) last
  pub replies : Replies source (answering head framing)
      (asked_route own_only head.method head.target (fields_of head)) last x x'

-- The bytes are the beginning of no request that is read, with 64 fields at most: that is told, and it is closed.
pub record IsRefused (came : List ℕ) (x x' : Standing) : Type 0 where
  pub error : ReadError
  pub refuses : ServerRefuses fresh came 64 error
  pub tells : Tells (answer_text (failed_server fresh error) (refusal (status_of error))) x.output x'.output
  pub phase : x'.phase ≡ Closing

-- The bytes are no whole head, and may become one: more is awaited, and nothing changes.
pub record IsAwaited (came : List ℕ) (x x' : Standing) : Type 0 where
  pub none : HasNoRequest came
  pub short : length came < limits.max_head_len
  pub may : MayBecomeRequest came
  pub same : x' ≡ x

-- There was no memory for the bytes: nothing is told, and it is closed.
abbrev pub Closes : (x x' : Standing) → Type 0
Closes x x' = x' ≡ record x { phase = Closing }

-- What a connection is told on the bytes that came so far, of its one request.
abbrev pub Hears : Source → (own_only : Bool) → (came : List ℕ) → (x x' : Standing) → Type 0
Hears source own_only came x x' =
    (IsAwaited came x x' ⊎ IsRefused came x x') ⊎ (IsAnswered source own_only came x x' ⊎ Closes x x')
