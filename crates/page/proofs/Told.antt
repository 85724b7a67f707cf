-- What was told of a text that was to be.
use Rattle.std.proofs.Common.{◌≡◌, ℕ, Bool, true, false, List, [], ◌++◌, length, ◌∙◌, ap, sym, refl, subst}
use Rattle.std.proofs.Common.{inl, inr, Option, Result, Ok, Err, cond}
use Rattle.std.specs.Prelude.{OnOk, OnErr, ◌⊎◌, not, if◌then◌else◌, codes}
use Rattle.std.specs.List.{list_any}
use Rattle.std.proofs.lemmas.List.{append-nil, append_assoc}
use Rattle.http1.specs.declared.conn.BodySize.TheVariants.{Known, Unknown}
use Rattle.http1.specs.declared.conn.Writing.{Writing}
use Rattle.http1.specs.declared.conn.Writing.TheVariants.{Body}
use Rattle.http1.specs.declared.encode.Encoder.TheVariants.{Chunked}
use Rattle.http1.specs.declared.server.Server.{Server}
use Rattle.http1.specs.Conn.{data_text, finish_text, after_data}
use Rattle.http1.specs.Server.{writing, with_writing}
use Rattle.page.specs.declared.clients.client.Phase.TheVariants.{Closing}
use Rattle.page.specs.declared.clients.request.Route.{Route}
use Rattle.page.specs.declared.clients.request.Route.TheVariants.{Events}
use Rattle.page.specs.declared.state.silence.Moment.{Moment}
use Rattle.page.specs.ControlLine.{Line}
use Rattle.page.specs.Silence.{is_stale}
use Rattle.page.specs.Texts.{stale_texts}
use Rattle.page.specs.Events.{Past, is_gap, due}
use Rattle.page.specs.Stream.{part_text, gap}
use Rattle.page.specs.Sending.{Standing, IsLive}
use Rattle.page.specs.Streaming.{IsStreaming}
use Rattle.page.specs.Answers.{Source, Answer, given, plain, answer_of, no_memory, head_text, behind_head, answer_text}
use Rattle.page.specs.Answers.{health, opening_text, reply_text, Tells, Replies}

pub told_none : (text o o' : List ℕ) → o' ≡ o → Tells text o o'
told_none text o o' h = record { told = []; rest = text; output = h ∙ sym (append-nil o); is_part = refl }

pub told_whole : (text o o' : List ℕ) → o' ≡ o ++ text → Tells text o o'
told_whole text o o' h = record { told = text; rest = []; output = h; is_part = append-nil text }

-- the head alone
pub told_head : (s : Server) (a : Answer) (o o1 o' : List ℕ)
    → o1 ≡ o ++ head_text s a.status a.reason a.kind (Known (length a.body)) → o' ≡ o1 → Tells (answer_text s a) o o'
unfolding answer_text
told_head s a o o1 o' h same =
    let size = Known (length a.body) in
    let body = writing (behind_head s a.status a.kind size) in
    record {
      told = head_text s a.status a.reason a.kind size;
      rest = data_text body a.body ++ finish_text (after_data body (length a.body)) [];
      output = same ∙ h;
      is_part = refl;
    }

parts : (s s1 s2 : Server) (a : Answer) → s1 ≡ behind_head s a.status a.kind (Known (length a.body))
    → s2 ≡ with_writing s1 (after_data (writing s1) (length a.body))
    → answer_text s a ≡ head_text s a.status a.reason a.kind (Known (length a.body))
    ++ (data_text (writing s1) a.body ++ finish_text (writing s2) [])
unfolding answer_text
parts s s1 s2 a h1 h2 = rw (h2, h1) refl

ended : {X E : Type 0} (head body end o o1 o2 o' : List ℕ) → o1 ≡ o ++ head → o2 ≡ o1 ++ body → (r : Result X E)
    → OnOk r (o' ≡ o2 ++ end) → OnErr r (o' ≡ o2) → Tells (head ++ (body ++ end)) o o'
ended head body end o o1 o2 o' h1 h2 (Ok u) ok err = record {
  told = head ++ (body ++ end);
  rest = [];
  output = ok ∙ ap (λ l. l ++ end) h2 ∙ ap (λ l. (l ++ body) ++ end) h1 ∙ append_assoc (o ++ head) body end
      ∙ append_assoc o head (body ++ end);
  is_part = append-nil (head ++ (body ++ end));
}
ended head body end o o1 o2 o' h1 h2 (Err e) ok err = record {
  told = head ++ body;
  rest = end;
  output = err ∙ h2 ∙ ap (λ l. l ++ body) h1 ∙ append_assoc o head body;
  is_part = append_assoc head body end;
}

-- the head and the body, and the end where it could be written
pub told_all : {X E : Type 0} (s s1 s2 : Server) (a : Answer) (o o1 o2 o' : List ℕ)
    → s1 ≡ behind_head s a.status a.kind (Known (length a.body))
    → s2 ≡ with_writing s1 (after_data (writing s1) (length a.body))
    → o1 ≡ o ++ head_text s a.status a.reason a.kind (Known (length a.body))
    → o2 ≡ o1 ++ data_text (writing s1) a.body → (r : Result X E) → OnOk r (o' ≡ o2 ++ finish_text (writing s2) [])
    → OnErr r (o' ≡ o2) → Tells (answer_text s a) o o'
told_all s s1 s2 a o o1 o2 o' h1 h2 hh hb r ok err =
    let P : List ℕ → Type 0 = λ text. Tells text o o' in
    subst P (sym (parts s s1 s2 a h1 h2))
    (ended (head_text s a.status a.reason a.kind (Known (length a.body))) (data_text (writing s1) a.body)
    (finish_text (writing s2) []) o o1 o2 o' hh hb r ok err)

-- the same with another name for the body
pub with_body : (s : Server) (kind body body' o o' : List ℕ) → Tells (answer_text s (given kind body)) o o'
    → body ≡ body' → Tells (answer_text s (given kind body')) o o'
with_body s kind body body' o o' h is =
    let P : List ℕ → Type 0 = λ b. Tells (answer_text s (given kind b)) o o' in
    subst P is h

-- and another name for the reason
pub with_reason : (s : Server) (status : ℕ) (reason reason' body o o' : List ℕ)
    → Tells (answer_text s (plain status reason body)) o o' → reason ≡ reason'
    → Tells (answer_text s (plain status reason' body)) o o'
with_reason s status reason reason' body o o' h is =
    let P : List ℕ → Type 0 = λ r. Tells (answer_text s (plain status r body)) o o' in
    subst P is h

-- no control line is stale
pub told_well : (moment : Moment) (ls : List Line) (s : Server) (b : Bool) (o o' : List ℕ)
    → b ≡ list_any (is_stale moment) ls → b ≡ false
    → Tells (answer_text s (given (codes "text/plain; charset=utf-8") (codes "ok\n"))) o o'
    → Tells (answer_text s (health moment ls)) o o'
told_well moment ls s b o o' is well h =
    let P : Bool → Type 0 = λ t. Tells (answer_text s (cond t
    (plain 503 (codes "Service Unavailable") (stale_texts moment ls))
    (given (codes "text/plain; charset=utf-8") (codes "ok\n")))) o o' in
    subst P (sym well ∙ is) h

-- one is
pub told_stale : (moment : Moment) (ls : List Line) (s : Server) (b : Bool) (body o o' : List ℕ)
    → b ≡ list_any (is_stale moment) ls → b ≡ true → body ≡ stale_texts moment ls
    → Tells (answer_text s (plain 503 (codes "Service Unavailable") body)) o o'
    → Tells (answer_text s (health moment ls)) o o'
told_stale moment ls s b body o o' is some same h =
    let P : Bool → Type 0 = λ t. Tells (answer_text s (cond t
    (plain 503 (codes "Service Unavailable") (stale_texts moment ls))
    (given (codes "text/plain; charset=utf-8") (codes "ok\n")))) o o' in
    let Q : List ℕ → Type 0 = λ text. Tells (answer_text s (plain 503 (codes "Service Unavailable") text)) o o' in
    subst P (sym some ∙ is) (subst Q same h)

-- no more may get events
pub told_full : (source : Source) (s : Server) (last : Option ℕ) (o o' : List ℕ) → source.is_full ≡ true
    → Tells (answer_text s (answer_of source Events)) o o' → Tells (reply_text source s Events last) o o'
told_full source s last o o' full h = rw full h

-- one more may
told_open : (source : Source) (s : Server) (last : Option ℕ) (o o' : List ℕ) → source.is_full ≡ false
    → Tells (opening_text s last source.past) o o' → Tells (reply_text source s Events last) o o'
told_open source s last o o' room h = rw room h

pub opened_none : (source : Source) (s : Server) (last : Option ℕ) (o o' : List ℕ) → source.is_full ≡ false → o' ≡ o
    → Tells (reply_text source s Events last) o o'
opened_none source s last o o' room same =
    told_open source s last o o' room (told_none (opening_text s last source.past) o o' same)

pub opened_head : (source : Source) (s : Server) (last : Option ℕ) (o o1 o' : List ℕ) → source.is_full ≡ false
    → o1 ≡ o ++ head_text s 200 (codes "OK") (codes "text/event-stream") Unknown → o' ≡ o1
    → Tells (reply_text source s Events last) o o'
unfolding opening_text
opened_head source s last o o1 o' room h same =
    let rest = if is_gap last source.past then data_text (Body Chunked) (part_text gap) else [] in
    told_open source s last o o' room (record {
      told = head_text s 200 (codes "OK") (codes "text/event-stream") Unknown;
      rest = rest;
      output = same ∙ h;
      is_part = refl;
    })

pub opened_text : (s : Server) (last : Option ℕ) (past : Past) (w : Writing) (o o1 o' : List ℕ)
    → o1 ≡ o ++ head_text s 200 (codes "OK") (codes "text/event-stream") Unknown
    → o' ≡ o1 ++ (if is_gap last past then data_text w (part_text gap) else []) → w ≡ Body Chunked
    → o' ≡ o ++ opening_text s last past
unfolding opening_text
opened_text s last past w o o1 o' h more chunks =
    let told = if is_gap last past then data_text (Body Chunked) (part_text gap) else [] in
    more ∙ ap (λ v. o1 ++ (if is_gap last past then data_text v (part_text gap) else [])) chunks
    ∙ ap (λ l. l ++ told) h
    ∙ append_assoc o (head_text s 200 (codes "OK") (codes "text/event-stream") Unknown) told

pub opened_all : (source : Source) (s : Server) (last : Option ℕ) (o o' : List ℕ) → source.is_full ≡ false
    → o' ≡ o ++ opening_text s last source.past → Tells (reply_text source s Events last) o o'
opened_all source s last o o' room h =
    told_open source s last o o' room (told_whole (opening_text s last source.past) o o' h)

pub told_gap : (w : Writing) (t : Bool) (piece o o' : List ℕ) → t ≡ true → piece ≡ part_text gap
    → o' ≡ o ++ data_text w piece → o' ≡ o ++ (if t then data_text w (part_text gap) else [])
told_gap w t piece o o' there is h =
    h ∙ ap (λ p. o ++ data_text w p) is
    ∙ sym (ap (λ b. o ++ (if b then data_text w (part_text gap) else [])) there)

-- an answer, and the connection is closed
pub answered : (source : Source) (s : Server) (route : Route) (last : Option ℕ) (x x' : Standing) → x'.phase ≡ Closing
    → Tells (reply_text source s route last) x.output x'.output ⊎ Tells (answer_text s no_memory) x.output x'.output
    → Replies source s route last x x'
answered source s route last x x' closes h =
    record { tells = h; phase = inr closes; opened = λ live. cc (closes, live) }

-- the same where the route is known
pub answered_as : (source : Source) (s : Server) (route r : Route) (last : Option ℕ) (x x' : Standing) → route ≡ r
    → x'.phase ≡ Closing
    → Tells (reply_text source s r last) x.output x'.output ⊎ Tells (answer_text s no_memory) x.output x'.output
    → Replies source s route last x x'
answered_as source s route r last x x' is closes h =
    let P : Route → Type 0 = λ r. Replies source s r last x x' in
    subst P (sym is) (answered source s r last x x' closes h)

-- a stream of events is opened, or there is another answer
pub answered_events : (source : Source) (s : Server) (last : Option ℕ) (x x' : Standing)
    → Tells (reply_text source s Events last) x.output x'.output → IsLive x' ⊎ (x'.phase ≡ Closing)
    → (IsLive x' → source.is_full ≡ false)
    → (IsLive x' → x'.output ≡ x.output ++ opening_text s last source.past)
    → (IsLive x' → x'.due ≡ due last source.past) → (IsLive x' → IsStreaming x'.writing)
    → Replies source s Events last x x'
answered_events source s last x x' tells phase room output owed chunks = record {
  tells = inl tells;
  phase = phase;
  opened = λ live. (ap not (room live), output live, owed live, chunks live);
}
