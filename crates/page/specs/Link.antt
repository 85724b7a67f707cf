-- What the ends of a control line tell of it: its connection, the last refusals, a save that failed (profile).
use Rattle.std.specs.Prelude.{ℕ, Bool, true, false, ◌&&◌, ◌||◌, List, codes, Option, Some, None, if◌then◌else◌}
use Rattle.serde_json.specs.Data.{Data}
use Rattle.page.specs.declared.state.link.Link.{Link}
use Rattle.page.specs.declared.state.link.Link.TheVariants.{Connected, NoConnection, Lost, AnswersNothing, GivenUp}
use Rattle.page.specs.declared.state.link.Link.TheVariants.{Ended}
use Rattle.page.specs.Members.{text_at, number_at, says}
use Rattle.page.specs.Counts.{is_kind, is_sent, is_refused_line, is_new_answer, has_bad_code}

-- What was told last of the connection; the time of the object since which that is so, None where it had none; and the
-- status that was told with it, as where sending ended.
pub record Linked : Type 0 where
  pub link : Link
  pub since : Option (List ℕ)
  pub status : Option ℕ

-- The meaning and the time that were told of a message that was refused.
pub record Refusal : Type 0 where
  pub meaning : Option (List ℕ)
  pub time : Option (List ℕ)

-- The kind of the objects that tell it.
abbrev pub link_kind : Link → List ℕ
link_kind Connected = codes "connected"
link_kind NoConnection = codes "no_connection"
link_kind Lost = codes "lost"
link_kind AnswersNothing = codes "answers_nothing"
link_kind GivenUp = codes "line_given_up"
link_kind Ended = codes "ended"

-- Nothing goes over the line.
abbrev pub is_bad : Link → Bool
is_bad Connected = false
is_bad NoConnection = true
is_bad Lost = true
is_bad AnswersNothing = true
is_bad GivenUp = true
is_bad Ended = true

abbrev pub was_bad : Option Linked → Bool
was_bad None = false
was_bad (Some before) = is_bad before.link

-- An answer came over the line, or the encoder was joined.
abbrev pub is_heard : Data → Bool
is_heard d = is_sent d || is_kind (codes "joined") d

-- What an object tells of the connection: by its kind; or where nothing went over the line, that something does, since
-- something was heard.
abbrev pub link_told : (bad : Bool) → Data → Option Link
link_told bad d =
    if is_kind (link_kind Connected) d then Some Connected
    else if is_kind (link_kind NoConnection) d then Some NoConnection
    else if is_kind (link_kind Lost) d then Some Lost
    else if is_kind (link_kind AnswersNothing) d then Some AnswersNothing
    else if is_kind (link_kind GivenUp) d then Some GivenUp
    else if is_kind (link_kind Ended) d then Some Ended
    else if bad && is_heard d then Some Connected
    else None

-- Since when it is so: where it was bad and still is, since it began to be bad; else since this object.
abbrev pub since_when : Link → Data → Option Linked → Option (List ℕ)
since_when link d None = text_at (codes "time") d
since_when link d (Some before) =
    if is_bad link && is_bad before.link then before.since else text_at (codes "time") d

abbrev pub linked_so : Option Link → Data → Option Linked → Option Linked
linked_so None d before = before
linked_so (Some link) d before = Some (record {
  link = link;
  since = since_when link d before;
  status = number_at (codes "status") d;
})

-- What is known of the connection behind an object.
abbrev pub linked_after : Data → Option Linked → Option Linked
linked_after d before = linked_so (link_told (was_bad before) d) d before

-- The time that was told last.
abbrev pub newest : Option (List ℕ) → (before : Option (List ℕ)) → Option (List ℕ)
newest None before = before
newest (Some time) before = Some time

abbrev pub heard_after : Data → Option (List ℕ) → Option (List ℕ)
heard_after d before = newest (text_at (codes "time") d) before

-- An end tells what became of a message that it had not told of before.
abbrev pub is_verdict : Data → Bool
is_verdict d = is_sent d || is_new_answer d

-- The last message that was told of, where it was refused.
abbrev pub refused_after : Data → Option Refusal → Option Refusal
refused_after d before =
    if is_verdict d then (if has_bad_code d then Some (record {
      meaning = text_at (codes "meaning") d;
      time = text_at (codes "time") d;
    }) else None)
    else before

-- What was told of a line that the studio's end was given and refused: its number, the column at which it is wrong,
-- what is wrong with it, its text, and the time.
pub record RefusedLine : Type 0 where
  pub number : Option ℕ
  pub column : Option ℕ
  pub meaning : Option (List ℕ)
  pub text : Option (List ℕ)
  pub time : Option (List ℕ)

-- The last line that was refused, until a message was answered behind it.
abbrev pub refused_line_after : Data → Option RefusedLine → Option RefusedLine
refused_line_after d before =
    if is_refused_line d then Some (record {
      number = number_at (codes "number") d;
      column = number_at (codes "column") d;
      meaning = text_at (codes "meaning") d;
      text = text_at (codes "text") d;
      time = text_at (codes "time") d;
    })
    else if is_sent d then None
    else before

-- The encoder could not save its state; over once it is connected again, or tells its store.
abbrev pub failed_after : Data → Bool → Bool
failed_after d before =
    if is_kind (codes "connection_end") d && says (codes "end") (codes "state_failed") d then true
    else if is_kind (codes "connection") d || is_kind (codes "store") d then false
    else before
