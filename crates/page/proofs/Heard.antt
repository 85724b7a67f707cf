-- The head of a request, as the machine that reads it finds it and as its parts are read.
use Rattle.std.proofs.Common.{◌≡◌, ◌≤◌, ℕ, Bool, List, length, map, take, drop, Option, ◌∙◌, ap, sym}
use Rattle.std.proofs.Common.{subst, arith}
use Rattle.std.specs.List.{All}
use Rattle.std.proofs.lemmas.List.Elements.{All-weaker}
use Rattle.httparse.specs.declared.spans.Span.{Span}
use Rattle.httparse.specs.declared.spans.HeaderSpan.{HeaderSpan}
use Rattle.httparse.specs.declared.spans.RequestSpans.{RequestSpans}
use Rattle.httparse.specs.Spans.{IsWithin, IsHeaderWithin, IsRequestWithin, span_bytes, header_bytes}
use Rattle.http1.specs.declared.conn.Event.{Event}
use Rattle.http1.specs.declared.conn.Event.TheVariants.{Head, Paused, Upgraded, Closed}
use Rattle.http1.specs.declared.error.ReadError.{ReadError}
use Rattle.http1.specs.declared.conn.Progress.{Progress}
use Rattle.http1.specs.declared.conn.Reading.{Reading}
use Rattle.http1.specs.declared.conn.Reading.TheVariants as Reads
use Rattle.http1.specs.declared.server.Server.{Server}
use Rattle.http1.specs.Conn.{ReadsPiece}
use Rattle.http1.specs.Message.{AcceptsRequest}
use Rattle.http1.specs.Decoder.{decoder_for}
use Rattle.http1.specs.ReadError.{status_of}
use Rattle.http1.specs.Server.{ServerReads, ReadsAt, ReadsHead, TakesHead, ServerRefuses, failed_server, request_of}
use Rattle.page.specs.declared.clients.request.Route.{Route}
use Rattle.page.specs.Asking.{asked_route, NamesLast}
use Rattle.page.specs.declared.clients.client.Phase.TheVariants.{Closing as IsClosing}
use Rattle.page.specs.Answers.{Source, Replies, Tells, answer_text, refusal}
use Rattle.page.specs.Fresh.{limits, fresh}
use Rattle.page.specs.Sending.{Standing}
use Rattle.page.specs.Hearing.{fields_of, answering, IsAnswered, IsRefused}

takes_at : (reading : Reading) (old : Server) (input : List ℕ) (spans : List HeaderSpan) (new : Server)
    (read : Progress RequestSpans) (r : RequestSpans) → ReadsAt reading old input spans new read
    → read.event ≡ Head r → TakesHead old input spans new read.consumed r
takes_at Reads.Head old input spans new read r h is =
    let P : Event RequestSpans → Type 0 = λ e. ReadsHead old input spans new read.consumed e in
    subst P is h
takes_at (Reads.Body d) old input spans new read r h is =
    let P : Event RequestSpans → Type 0 = λ e. ReadsPiece d input spans h.0 read.consumed e in
    absurd (subst P is h.1)
takes_at Reads.Done old input spans new read r h is =
    let e : Paused ≡ Head r = sym (ap (λ (p : Progress RequestSpans). p.event) h.0) ∙ is in cc
takes_at Reads.Upgraded old input spans new read r h is =
    let e : Upgraded ≡ Head r = sym (ap (λ (p : Progress RequestSpans). p.event) h.0) ∙ is in cc
takes_at Reads.Closed old input spans new read r h is =
    let e : Closed ≡ Head r = sym (ap (λ (p : Progress RequestSpans). p.event) h.0) ∙ is in cc
takes_at (Reads.Failed e) old input spans new read r h is = absurd h

pub takes : (old : Server) (input : List ℕ) (spans : List HeaderSpan) (new : Server) (read : Progress RequestSpans)
    (r : RequestSpans) → ServerReads old input spans new read → read.event ≡ Head r
    → TakesHead old input spans new read.consumed r
takes old input spans new read r h is = takes_at old.reading old input spans new read r h is

-- the spans lie in what came
pub method_within : (input : List ℕ) (spans : List HeaderSpan) (r : RequestSpans) → IsRequestWithin input spans r
    → IsWithin (length input) r.method
method_within input spans r h =
    let long : r.len ≤ length input = h.section.len_fits in
    let ends = h.method.1 in
    (h.method.0, omega arith)

pub path_within : (input : List ℕ) (spans : List HeaderSpan) (r : RequestSpans) → IsRequestWithin input spans r
    → IsWithin (length input) r.path
path_within input spans r h =
    let long : r.len ≤ length input = h.section.len_fits in
    let ends = h.path.1 in
    (h.path.0, omega arith)

further : (m n : ℕ) → m ≤ n → (s : Span) → IsWithin m s → IsWithin n s
further m n le s h = let ends = h.1 in (h.0, omega arith)

pub fields_within : (input : List ℕ) (spans : List HeaderSpan) (r : RequestSpans) → IsRequestWithin input spans r
    → All (IsHeaderWithin (length input)) (take r.headers spans)
fields_within input spans r h =
    All-weaker (IsHeaderWithin r.len) (IsHeaderWithin (length input))
    (λ f w. (
      further r.len (length input) h.section.len_fits f.name w.0,
      further r.len (length input) h.section.len_fits f.value w.1,
    )) (take r.headers spans) h.section.headers_fit

-- the bytes begin with a head
pub heard : (source : Source) (own_only : Bool) (server new : Server) (input came : List ℕ) (spans : List HeaderSpan)
    (read : Progress RequestSpans) (r : RequestSpans) (route : Route) (last : Option ℕ) (x x' : Standing)
    → server ≡ fresh → ServerReads server input spans new read → read.event ≡ Head r → input ≡ came
    → route ≡ asked_route own_only (span_bytes input r.method) (span_bytes input r.path)
    (map (header_bytes input) (take r.headers spans))
    → NamesLast (map (header_bytes input) (take r.headers spans)) last → Replies source new route last x x'
    → IsAnswered source own_only came x x'
unfolding answering
heard source own_only server new input came spans read r route last x x' is_fresh h is same asks names replies =
    let t = takes server input spans new read r h is in
    let fs = map (header_bytes input) (take r.headers spans) in
    let Q : List (List ℕ × List ℕ) → Type 0 = λ fields. NamesLast fields last in
    let A : List ℕ → Type 0 = λ i. AcceptsRequest limits i t.head t.framing (drop read.consumed input) in
    let L : Server → Type 0 = λ s. AcceptsRequest s.limits input t.head t.framing (drop read.consumed input) in
    let to : route ≡ asked_route own_only t.head.method t.head.target (fields_of t.head) =
    asks ∙ ap (λ m. asked_route own_only m (span_bytes input r.path) fs) t.covered.method
    ∙ ap (λ p. asked_route own_only t.head.method p fs) t.covered.path
    ∙ ap (λ fields. asked_route own_only t.head.method t.head.target fields) t.covered.fields in
    let stands : new ≡ answering t.head t.framing =
    t.next ∙ ap (λ (s : Server). record s {
      reading = Reads.Body (decoder_for s.limits t.framing);
      request = request_of t.head t.framing;
    }) is_fresh in
    let R : Route → Type 0 = λ v. Replies source new v last x x' in
    let S : Server → Type 0 = λ s. Replies source s (asked_route own_only t.head.method t.head.target
    (fields_of t.head)) last x x' in
    record {
      head = t.head;
      framing = t.framing;
      rest = drop read.consumed input;
      accepts = subst A same (subst L is_fresh t.accepts);
      last = last;
      names = subst Q t.covered.fields names;
      replies = subst S stands (subst R to replies);
    }

-- they are the beginning of none
pub refused : (server new : Server) (input came : List ℕ) (room : ℕ) (error : ReadError) (status : ℕ)
    (x x' : Standing) → server ≡ fresh → ServerRefuses server input room error
    → new ≡ failed_server server error → input ≡ came → room ≡ 64 → status ≡ status_of error → x'.phase ≡ IsClosing
    → Tells (answer_text new (refusal status)) x.output x'.output → IsRefused came x x'
refused server new input came room error status x x' is_fresh h failed same many is closes tells =
    let P : Server → Type 0 = λ s. ServerRefuses s input room error in
    let Q : List ℕ → Type 0 = λ i. ServerRefuses fresh i room error in
    let M : ℕ → Type 0 = λ n. ServerRefuses fresh came n error in
    let S : Server → Type 0 = λ s. Tells (answer_text s (refusal status)) x.output x'.output in
    let T : ℕ → Type 0 = λ n. Tells (answer_text (failed_server fresh error) (refusal n)) x.output x'.output in
    record {
      error = error;
      refuses = subst M many (subst Q same (subst P is_fresh h));
      tells = subst T is (subst S (failed ∙ ap (λ s. failed_server s error) is_fresh) tells);
      phase = closes;
    }
