-- What is told of a state has no number with a fraction; parts that were added are the whole.
use Rattle.std.proofs.Common.{◌≡◌, ℕ, Bool, true, false, cond, List, [], ◌∷◌, ◌++◌, map, refl, ◌∙◌, ap, Option, Some}
use Rattle.std.proofs.Common.{None}
use Rattle.std.specs.Prelude.{flat_map, option_map}
use Rattle.std.proofs.lemmas.List.{append_assoc}
use Rattle.serde_json.specs.Data.{Data, item}
use Rattle.serde_json.specs.View.{items_of}
use Rattle.serde_json.specs.Written.{has_float, items_have_float}
use Rattle.page.specs.Shown.{Service}
use Rattle.page.specs.Link.{Linked, Refusal, RefusedLine}
use Rattle.page.specs.declared.state.silence.Moment.{Moment}
use Rattle.page.specs.declared.state.announced.Announcement.{Announcement}
use Rattle.page.specs.Announced.{since_of, seconds_since}
use Rattle.page.specs.Changes.{Change, is_recent}
use Rattle.page.specs.ControlLine.{Line, air_shown}
use Rattle.page.specs.Minutes.{minute_of, last_hour}
use Rattle.page.specs.State.{State}
use Rattle.page.specs.Texts.{text_data, flag_data, number_data, service_data, services_data, link_data, since_data}
use Rattle.page.specs.Texts.{refused_data, refused_line_data, numbers_data, line_data, lines_data, state_data}
use Rattle.page.specs.Texts.{status_data}
use Rattle.page.specs.HistoryTexts.{row_data, told_row, rows_data, line_history, line_histories, history_data}

no_text : (o : Option (List ℕ)) → has_float (text_data o) ≡ false
no_text None = refl
no_text (Some t) = refl

no_flag : (o : Option Bool) → has_float (flag_data o) ≡ false
no_flag None = refl
no_flag (Some b) = refl

no_number : (o : Option ℕ) → has_float (number_data o) ≡ false
no_number None = refl
no_number (Some n) = refl

no_service : (now : ℕ) (on : List Announcement) (s : Service) → has_float (service_data now on s) ≡ false
no_service now on s =
    rw (
      no_number (option_map (seconds_since now) (since_of s.set s.service on)),
      no_text s.name,
      no_text s.pi,
      no_number s.pty,
      no_text s.rt,
      no_flag s.ta,
      no_flag s.tp,
    )
    refl

no_services : (now : ℕ) (on : List Announcement) (ss : List Service)
    → items_have_float (services_data now on ss) ≡ false
no_services now on [] = refl
no_services now on (s ∷ ss) = rw (no_service now on s, no_services now on ss) refl

no_link : (o : Option Linked) → has_float (link_data o) ≡ false
no_link None = refl
no_link (Some l) = refl

no_since : (o : Option Linked) → has_float (since_data o) ≡ false
no_since None = refl
no_since (Some l) = no_text l.since

no_status : (o : Option Linked) → has_float (status_data o) ≡ false
no_status None = refl
no_status (Some l) = no_number l.status

no_refused : (o : Option Refusal) → has_float (refused_data o) ≡ false
no_refused None = refl
no_refused (Some r) = rw (no_text r.meaning, no_text r.time) refl

no_refused_line : (o : Option RefusedLine) → has_float (refused_line_data o) ≡ false
no_refused_line None = refl
no_refused_line (Some r) =
    rw (no_number r.column, no_text r.meaning, no_number r.number, no_text r.text, no_text r.time) refl

no_numbers : (ns : List ℕ) → items_have_float (numbers_data ns) ≡ false
no_numbers [] = refl
no_numbers (n ∷ ns) = no_numbers ns

no_line : (now : ℕ) (l : Line) → has_float (line_data now l) ≡ false
no_line now l =
    rw (
      no_text l.heard,
      no_link l.linked,
      no_refused l.refused,
      no_refused_line l.refused_line,
      no_numbers (last_hour (minute_of now) l.minutes),
      no_services now l.announced (air_shown l).services,
      no_since l.linked,
      no_status l.linked,
    )
    refl

no_lines : (now : ℕ) (ls : List Line) → items_have_float (lines_data now ls) ≡ false
no_lines now [] = refl
no_lines now (l ∷ ls) = rw (no_line now l, no_lines now ls) refl

pub no_float : (moment : Moment) (s : State) → has_float (state_data moment s) ≡ false
no_float moment s = rw (no_lines moment.now s.lines, no_number moment.stale) refl

-- the objects of services, and of control lines
pub each_service : {X : Type 0} (now : ℕ) (on : List Announcement) (f : X → Service) (xs : List X)
    → items_of (map (λ x. service_data now on (f x)) xs) ≡ services_data now on (map f xs)
each_service now on f [] = refl
each_service now on f (x ∷ xs) = ap (item (service_data now on (f x))) (each_service now on f xs)

pub each_line : {X : Type 0} (now : ℕ) (f : X → Line) (xs : List X)
    → items_of (map (λ x. line_data now (f x)) xs) ≡ lines_data now (map f xs)
each_line now f [] = refl
each_line now f (x ∷ xs) = ap (item (line_data now (f x))) (each_line now f xs)

-- the same of a history
no_row : (now : ℕ) (c : Change) → has_float (row_data now c) ≡ false
no_row now c = rw (no_text c.seen.rt, no_flag c.seen.ta, no_flag c.seen.tp) refl

no_told_row : (told : Bool) (now : ℕ) (c : Change) (rest : List Data) → items_have_float (items_of rest) ≡ false
    → items_have_float (items_of (cond told (row_data now c ∷ []) [] ++ rest)) ≡ false
no_told_row true now c rest h = rw (no_row now c, h) refl
no_told_row false now c rest h = h

no_rows : (now : ℕ) (cs : List Change) → items_have_float (rows_data now cs) ≡ false
no_rows now [] = refl
no_rows now (c ∷ cs) = no_told_row (is_recent now c) now c (flat_map (told_row now) cs) (no_rows now cs)

no_history : (now : ℕ) (l : Line) → has_float (line_history now l) ≡ false
no_history now l = rw (no_rows now l.history) refl

no_histories : (now : ℕ) (ls : List Line) → items_have_float (line_histories now ls) ≡ false
no_histories now [] = refl
no_histories now (l ∷ ls) = rw (no_history now l, no_histories now ls) refl

pub no_float_told : (now : ℕ) (s : State) → has_float (history_data now s) ≡ false
no_float_told now s = rw (no_histories now s.lines) refl

pub each_history : {X : Type 0} (now : ℕ) (f : X → Line) (xs : List X)
    → items_of (map (λ x. line_history now (f x)) xs) ≡ line_histories now (map f xs)
each_history now f [] = refl
each_history now f (x ∷ xs) = ap (item (line_history now (f x))) (each_history now f xs)

-- what was added in parts
pub in_two : (t0 t1 t2 p1 p2 : List ℕ) → t1 ≡ t0 ++ p1 → t2 ≡ t1 ++ p2 → t2 ≡ t0 ++ (p1 ++ p2)
in_two t0 t1 t2 p1 p2 h1 h2 = h2 ∙ ap (λ t. t ++ p2) h1 ∙ append_assoc t0 p1 p2

pub in_three : (t0 t1 t2 t3 p1 p2 p3 : List ℕ) → t1 ≡ t0 ++ p1 → t2 ≡ t1 ++ p2 → t3 ≡ t2 ++ p3
    → t3 ≡ t0 ++ (p1 ++ (p2 ++ p3))
in_three t0 t1 t2 t3 p1 p2 p3 h1 h2 h3 =
    h3 ∙ ap (λ t. t ++ p3) (in_two t0 t1 t2 p1 p2 h1 h2) ∙ simp append_assoc

pub in_five : (t0 t1 t2 t3 t4 t5 p1 p2 p3 p4 p5 : List ℕ) → t0 ≡ [] → t1 ≡ t0 ++ p1 → t2 ≡ t1 ++ p2 → t3 ≡ t2 ++ p3
    → t4 ≡ t3 ++ p4 → t5 ≡ t4 ++ p5 → t5 ≡ p1 ++ (p2 ++ (p3 ++ (p4 ++ p5)))
in_five t0 t1 t2 t3 t4 t5 p1 p2 p3 p4 p5 h0 h1 h2 h3 h4 h5 =
    h5 ∙ ap (λ t. t ++ p5) (h4 ∙ ap (λ t. t ++ p4) (h3 ∙ ap (λ t. t ++ p3) (h2 ∙ ap (λ t. t ++ p2)
    (h1 ∙ ap (λ t. t ++ p1) h0))))
    ∙ simp append_assoc

pub in_eight : (t0 t1 t2 t3 t4 t5 t6 t7 t8 p1 p2 p3 p4 p5 p6 p7 p8 : List ℕ) → t1 ≡ t0 ++ p1 → t2 ≡ t1 ++ p2
    → t3 ≡ t2 ++ p3 → t4 ≡ t3 ++ p4 → t5 ≡ t4 ++ p5 → t6 ≡ t5 ++ p6 → t7 ≡ t6 ++ p7 → t8 ≡ t7 ++ p8
    → t8 ≡ t0 ++ (p1 ++ (p2 ++ (p3 ++ (p4 ++ (p5 ++ (p6 ++ (p7 ++ p8)))))))
in_eight t0 t1 t2 t3 t4 t5 t6 t7 t8 p1 p2 p3 p4 p5 p6 p7 p8 h1 h2 h3 h4 h5 h6 h7 h8 =
    h8 ∙ ap (λ t. t ++ p8) (h7 ∙ ap (λ t. t ++ p7) (h6 ∙ ap (λ t. t ++ p6) (h5 ∙ ap (λ t. t ++ p5)
    (h4 ∙ ap (λ t. t ++ p4) (h3 ∙ ap (λ t. t ++ p3) (h2 ∙ ap (λ t. t ++ p2) h1))))))
    ∙ simp append_assoc
