-- The whole life of a connection, turn after turn.
use Rattle.std.proofs.Common.{◌≡◌, ℕ, ◌+◌, ◌-◌, ◌<◌, ◌⊎◌, inl, inr, Bool, List, [], ◌∷◌, ◌++◌}
use Rattle.std.proofs.Common.{length, length-append, take, drop, flat_map, refl, ◌∙◌, ap, sym, subst, arith}
use Rattle.std.specs.List.{AllByRecursion}
use Rattle.std.proofs.lemmas.Bool.{cases_lt}
use Rattle.std.proofs.lemmas.List.{append-nil, append_assoc, length-drop}
use Rattle.std.proofs.lemmas.Grind.{flat_map-append}
use Rattle.std.proofs.Math.Seq.{take-append_seam}
use Rattle.http1.specs.Conn.{data_text, finish_text}
use Rattle.http1.specs.declared.conn.Writing.TheVariants.{Body}
use Rattle.http1.specs.declared.encode.Encoder.TheVariants.{Chunked}
use Rattle.page.specs.declared.clients.client.Phase.TheVariants.{Asking, Closing}
use Rattle.page.specs.Events.{Event, Past, numbered, kept, with_line, from}
use Rattle.page.specs.Stream.{Part, carries, gap, alive, part_text}
use Rattle.page.specs.Laws.{sends, World, waiting, IsLost, happens, run, events_in, begins}
use Rattle.page.specs.Sending.{Standing, IsLive, Delivers, event_bytes}
use Rattle.page.specs.Answers.{Source}
use Rattle.page.specs.Hearing.{Hears}
use Rattle.page.specs.Life.{Life, sent_to, born, Turn, line_comes, bytes_come, is_sent, is_assured, is_ended}
use Rattle.page.specs.Life.{Runs, steps_of, past_behind, bytes_in, carried, IsLater, chunks, IsTold, WholeLife}
use Rattle.page.proofs.Schedules.{from_all, from_drop, length-numbered, not_sent, is_sent as some_sent}
use Rattle.page.proofs.Schedules.{each_once_lem, beginning_once_lem}

-- ---- events as parts
abbrev parts_of : List Event → List Part
parts_of [] = []
parts_of (e ∷ es) = carries e.number e.line ∷ parts_of es

carried_parts : (es : List Event) → carried (parts_of es) ≡ es
carried_parts [] = refl
carried_parts (e ∷ es) = ap (λ more. e ∷ more) (carried_parts es)

carried-append : (ps qs : List Part) → carried (ps ++ qs) ≡ carried ps ++ carried qs
carried-append [] qs = refl
carried-append (carries n l ∷ ps) qs = ap (λ more. record { number = n; line = l } ∷ more) (carried-append ps qs)
carried-append (gap ∷ ps) qs = carried-append ps qs
carried-append (alive ∷ ps) qs = carried-append ps qs

later_parts : (es : List Event) → AllByRecursion IsLater (parts_of es)
later_parts [] = tt
later_parts (e ∷ es) = (tt, later_parts es)

later-append : (ps qs : List Part) → AllByRecursion IsLater ps → AllByRecursion IsLater qs
    → AllByRecursion IsLater (ps ++ qs)
later-append [] qs h k = k
later-append (p ∷ ps) qs h k = (h.0, later-append ps qs h.1 k)

chunks_of : (es : List Event) → flat_map (event_bytes (Body Chunked)) es ≡ chunks (parts_of es)
chunks_of [] = refl
chunks_of (e ∷ es) = ap (λ more. event_bytes (Body Chunked) e ++ more) (chunks_of es)

chunks-append : (ps qs : List Part) → chunks (ps ++ qs) ≡ chunks ps ++ chunks qs
chunks-append ps qs = flat_map-append (λ part. data_text (Body Chunked) (part_text part)) ps qs

-- ---- nothing in two lists
none_before : (a b : List ℕ) → a ++ b ≡ [] → a ≡ []
none_before [] b h = refl
none_before (x ∷ a) b h = cc

none_behind : (a b : List ℕ) → a ++ b ≡ [] → b ≡ []
none_behind [] b h = h
none_behind (x ∷ a) b h = cc

-- ---- what is sent, as a step of a schedule
no_events : (es : List Event) → length es ≡ 0 → es ≡ []
no_events [] h = refl
no_events (e ∷ es) h = absurd (omega (arith, h))

lost_none : (d f : ℕ) (ls : List (List ℕ)) (es : List Event) → d < f
    → from d (numbered f ls) ≡ es ++ from (d + length es) (numbered f ls) → es ≡ []
lost_none d f ls es lost h =
    let m = d + length es in
    let all : length (from d (numbered f ls)) ≡ length ls =
    ap length (from_all d f ls (omega (arith, lost))) ∙ length-numbered f ls in
    let split : length (from d (numbered f ls)) ≡ length es + length (from m (numbered f ls)) =
    simp length-append at (ap length h) in
    elim (cases_lt m f) [
      | inl before ↦
          let rest : length (from m (numbered f ls)) ≡ length ls =
          ap length (from_all m f ls (omega (arith, before))) ∙ length-numbered f ls in
          no_events es (omega (arith, all, split, rest))
      | inr behind ↦
          let rest : length (from m (numbered f ls)) ≡ length ls - (m - f) =
          ap length (from_drop m f ls behind) ∙ length-numbered m (drop (m - f) ls) ∙ length-drop (m - f) ls in
          no_events es (omega (arith, all, split, rest, lost, behind))
    ]

-- where one stands, as the laws of events see it
abbrev at : Past → ℕ → List Event → World
at past owed sent = record { past = past; owed = owed; sent = sent }

sent_step : (past : Past) (es : List Event) (bytes : List ℕ) (x x' : Standing) (S : List Event)
    → Delivers past es bytes x x' → happens (at past x.due S) (sends (length es)) ≡ at past x'.due (S ++ es)
sent_step past es bytes x x' S d =
    let w = at past x.due S in
    elim (cases_lt x.due past.first) [
      | inl lost ↦
          let rest : from x.due (kept past) ≡ es ++ from (x.due + length es) (kept past) =
          d.owed_before ∙ ap (λ n. es ++ from n (kept past)) d.due in
          let none : es ≡ [] = lost_none x.due past.first past.lines es lost rest in
          let same : x.due ≡ x'.due =
          sym (d.due ∙ ap (λ l. x.due + length l) none ∙ (let z : x.due + 0 ≡ x.due = omega arith in z)) in
          not_sent w (length es) lost
          ∙ ap (λ n. at past n S) same
          ∙ ap (λ s. at past x'.due s) (sym (append-nil S) ∙ ap (λ l. S ++ l) (sym none))
      | inr holds ↦
          let taken : take (length es) (from x.due (kept past)) ≡ es =
          ap (take (length es)) d.owed_before ∙ take-append_seam es (from x'.due (kept past)) in
          some_sent w (length es) holds
          ∙ ap (λ l. at past (x.due + length l) (S ++ l)) taken
          ∙ ap (λ n. at past n (S ++ es)) (sym d.due)
    ]

none_step : (past : Past) (n : ℕ) (es S : List Event) → es ≡ []
    → happens (at past n S) (sends (length es)) ≡ at past n S
none_step past n es S none =
    let w = at past n S in
    let zero_sent : happens w (sends 0) ≡ w = elim (cases_lt n past.first) [
      | inl lost ↦ not_sent w 0 lost
      | inr holds ↦ some_sent w 0 holds ∙ ap (λ s. at past (n + 0) s) (append-nil S)
          ∙ (let z : n + 0 ≡ n = omega arith in ap (λ m. at past m S) z)
    ] in
    ap (λ l. happens w (sends (length l))) none ∙ zero_sent

-- ---- one that is to be closed is sent nothing more
record Rests (l : Life) (turns : List Turn) (f : Life) : Type 0 where
  sent : sent_to f ≡ sent_to l
  phase : f.standing.phase ≡ Closing
  world : (S : List Event) → run (at l.past l.standing.due S) (steps_of turns) ≡ at f.past f.standing.due S

-- the same behind a turn that changes nothing of that
rests_from : (turns : List Turn) (l m f : Life) (turn : Turn) → Rests m turns f → sent_to m ≡ sent_to l
    → ((S : List Event) → run (at l.past l.standing.due S) (steps_of (turn ∷ turns))
    ≡ run (at m.past m.standing.due S) (steps_of turns)) → Rests l (turn ∷ turns) f
rests_from turns l m f turn h sent world =
    record { sent = h.sent ∙ sent; phase = h.phase; world = λ S. world S ∙ h.world S }

rests : (turns : List Turn) (l f : Life) → l.standing.phase ≡ Closing → Runs l turns f → Rests l turns f
rests [] l f closed h =
    let P : Life → Type 0 = λ v. Rests l [] v in
    subst P (sym h) (record { sent = refl; phase = closed; world = λ S. refl })
rests (line_comes line ∷ turns) l f closed h =
    let m : Life = record l { past = with_line l.past line } in
    let P : Life → Type 0 = λ v. Runs v turns f in
    rests_from turns l m f (line_comes line) (rests turns m f closed (subst P h.1 h.2)) refl (λ S. refl)
rests (bytes_come source own_only bytes ∷ turns) l f closed h =
    let y = h.0.standing in
    let same : y ≡ l.standing = h.1.3 (λ asking. cc (asking, closed)) in
    let m : Life = record l { came = l.came ++ bytes } in
    let P : Life → Type 0 = λ v. Runs v turns f in
    let Q : Standing → Type 0 = λ s. Runs (record l { came = l.came ++ bytes; standing = s }) turns f in
    rests_from turns l m f (bytes_come source own_only bytes)
    (rests turns m f closed (subst Q same (subst P h.1.0 h.2))) refl (λ S. refl)
rests (is_sent events bytes ∷ turns) l f closed h =
    let y = h.0.standing in
    let wrote = h.1.3 (λ live. cc (live, closed)) in
    let m : Life = record l { standing = y; written = l.written ++ bytes } in
    let P : Life → Type 0 = λ v. Runs v turns f in
    let due : y.due ≡ l.standing.due = ap (λ (s : Standing). s.due) wrote.1.same in
    rests_from turns l m f (is_sent events bytes)
    (rests turns m f (h.1.1 ∙ closed) (subst P h.1.0 h.2))
    (append_assoc l.written bytes y.output ∙ ap (λ o. l.written ++ o) wrote.1.output)
    (λ S. ap (λ w. run w (steps_of turns)) (none_step l.past l.standing.due events S wrote.0)
    ∙ ap (λ n. run (at l.past n S) (steps_of turns)) (sym due))
rests (is_assured ∷ turns) l f closed h =
    let y = h.0.standing in
    let same : y ≡ l.standing = elim h.1.1 [
      | inl same ↦ same
      | inr says ↦ cc (says.0, closed)
    ] in
    let P : Life → Type 0 = λ v. Runs v turns f in
    let Q : Standing → Type 0 = λ s. Runs (record l { standing = s }) turns f in
    rests_from turns l l f is_assured (rests turns l f closed (subst Q same (subst P h.1.0 h.2))) refl (λ S. refl)
rests (is_ended ∷ turns) l f closed h =
    let y = h.0.standing in
    let ends = h.1.1 in
    let output : y.output ≡ l.standing.output = elim ends.output [
      | inl same ↦ same
      | inr said ↦ cc (said.0, closed)
    ] in
    let m : Life = record l { standing = y } in
    let P : Life → Type 0 = λ v. Runs v turns f in
    rests_from turns l m f is_ended (rests turns m f ends.phase (subst P h.1.0 h.2))
    (ap (λ o. l.written ++ o) output)
    (λ S. ap (λ n. run (at l.past n S) (steps_of turns)) (sym ends.due))

-- ---- one that gets events
record Goes (l : Life) (S : List Event) (turns : List Turn) (f : Life) : Type 0 where
  parts : List Part
  ending : List ℕ
  sent : sent_to f ≡ sent_to l ++ (chunks parts ++ ending)
  later : AllByRecursion IsLater parts
  ends : (ending ≡ []) ⊎ ((f.standing.phase ≡ Closing) × (ending ≡ finish_text (Body Chunked) []))
  world : run (at l.past l.standing.due S) (steps_of turns) ≡ at f.past f.standing.due (S ++ carried parts)

-- the same behind a turn that sent these parts
goes_from : (turns : List Turn) (l m f : Life) (turn : Turn) (S : List Event) (ps : List Part)
    → Goes m (S ++ carried ps) turns f → sent_to m ≡ sent_to l ++ chunks ps → AllByRecursion IsLater ps
    → run (at l.past l.standing.due S) (steps_of (turn ∷ turns))
    ≡ run (at m.past m.standing.due (S ++ carried ps)) (steps_of turns) → Goes l S (turn ∷ turns) f
goes_from turns l m f turn S ps h sent later world = record {
  parts = ps ++ h.parts;
  ending = h.ending;
  sent = h.sent ∙ ap (λ o. o ++ (chunks h.parts ++ h.ending)) sent
      ∙ append_assoc (sent_to l) (chunks ps) (chunks h.parts ++ h.ending)
      ∙ ap (λ o. sent_to l ++ o) (sym (append_assoc (chunks ps) (chunks h.parts) h.ending)
      ∙ ap (λ o. o ++ h.ending) (sym (chunks-append ps h.parts)));
  later = later-append ps h.parts later h.later;
  ends = h.ends;
  world = world ∙ h.world
      ∙ ap (at f.past f.standing.due) (append_assoc S (carried ps) (carried h.parts)
      ∙ ap (λ es. S ++ es) (sym (carried-append ps h.parts)));
}

-- the same behind a turn that sent nothing
goes_on : (turns : List Turn) (l m f : Life) (turn : Turn) (S : List Event) → Goes m S turns f
    → sent_to m ≡ sent_to l → run (at l.past l.standing.due S) (steps_of (turn ∷ turns))
    ≡ run (at m.past m.standing.due S) (steps_of turns) → Goes l S (turn ∷ turns) f
goes_on turns l m f turn S h sent world = record {
  parts = h.parts;
  ending = h.ending;
  sent = h.sent ∙ ap (λ o. o ++ (chunks h.parts ++ h.ending)) sent;
  later = h.later;
  ends = h.ends;
  world = world ∙ h.world;
}

goes : (turns : List Turn) (l f : Life) (S : List Event) → IsLive l.standing → l.standing.writing ≡ Body Chunked
    → Runs l turns f → Goes l S turns f
goes [] l f S live chunked h =
    let P : Life → Type 0 = λ v. Goes l S [] v in
    subst P (sym h) (record {
      parts = [];
      ending = [];
      sent = sym (append-nil (sent_to l));
      later = tt;
      ends = inl refl;
      world = ap (at l.past l.standing.due) (sym (append-nil S));
    })
goes (line_comes line ∷ turns) l f S live chunked h =
    let m : Life = record l { past = with_line l.past line } in
    let P : Life → Type 0 = λ v. Runs v turns f in
    goes_on turns l m f (line_comes line) S (goes turns m f S live chunked (subst P h.1 h.2)) refl refl
goes (bytes_come source own_only bytes ∷ turns) l f S live chunked h =
    let y = h.0.standing in
    let same : y ≡ l.standing = h.1.3 (λ asking. cc (asking, live)) in
    let m : Life = record l { came = l.came ++ bytes } in
    let P : Life → Type 0 = λ v. Runs v turns f in
    let Q : Standing → Type 0 = λ s. Runs (record l { came = l.came ++ bytes; standing = s }) turns f in
    goes_on turns l m f (bytes_come source own_only bytes) S
    (goes turns m f S live chunked (subst Q same (subst P h.1.0 h.2))) refl refl
goes (is_sent events bytes ∷ turns) l f S live chunked h =
    let y = h.0.standing in
    let d = h.1.2 live in
    let m : Life = record l { standing = y; written = l.written ++ bytes } in
    let P : Life → Type 0 = λ v. Runs v turns f in
    let ps = parts_of events in
    let is : events ≡ carried ps = sym (carried_parts events) in
    goes_from turns l m f (is_sent events bytes) S ps
    (goes turns m f (S ++ carried ps) (h.1.1 ∙ live) (d.writing ∙ chunked) (subst P h.1.0 h.2))
    (append_assoc l.written bytes y.output ∙ ap (λ o. l.written ++ o) d.output
    ∙ sym (append_assoc l.written l.standing.output (flat_map (event_bytes l.standing.writing) events))
    ∙ ap (λ o. sent_to l ++ o) (ap (λ w. flat_map (event_bytes w) events) chunked ∙ chunks_of events))
    (later_parts events)
    (ap (λ w. run w (steps_of turns)) (sent_step l.past events bytes l.standing y S d
    ∙ ap (λ es. at l.past y.due (S ++ es)) is))
goes (is_assured ∷ turns) l f S live chunked h =
    let y = h.0.standing in
    let P : Life → Type 0 = λ v. Runs v turns f in
    let Q : Standing → Type 0 = λ s. Runs (record l { standing = s }) turns f in
    let next = subst P h.1.0 h.2 in
    elim h.1.1 [
      | inl same ↦ goes_on turns l l f is_assured S (goes turns l f S live chunked (subst Q same next)) refl refl
      | inr says ↦
          let z : Standing = record (l.standing) { output = data_text l.standing.writing (part_text alive) } in
          let m : Life = record l { standing = z } in
          goes_from turns l m f is_assured S (alive ∷ [])
          (goes turns m f (S ++ carried (alive ∷ [])) live chunked (subst Q says.2 next))
          (ap (λ o. l.written ++ o) (ap (λ w. data_text w (part_text alive)) chunked
          ∙ sym (append-nil (data_text (Body Chunked) (part_text alive))))
          ∙ ap (λ o. o ++ chunks (alive ∷ [])) (sym (append-nil l.written) ∙ ap (λ o. l.written ++ o) (sym says.1)))
          (tt, tt)
          (ap (λ es. run (at l.past l.standing.due es) (steps_of turns)) (sym (append-nil S)))
    ]
goes (is_ended ∷ turns) l f S live chunked h =
    let y = h.0.standing in
    let over = h.1.1 in
    let m : Life = record l { standing = y } in
    let P : Life → Type 0 = λ v. Runs v turns f in
    let r = rests turns m f over.phase (subst P h.1.0 h.2) in
    let world : run (at l.past l.standing.due S) (steps_of turns) ≡ at f.past f.standing.due (S ++ []) =
    ap (λ n. run (at l.past n S) (steps_of turns)) (sym over.due) ∙ r.world S
    ∙ ap (at f.past f.standing.due) (sym (append-nil S)) in
    elim over.output [
      | inl same ↦ record {
        parts = [];
        ending = [];
        sent = r.sent ∙ ap (λ o. l.written ++ o) same ∙ sym (append-nil (sent_to l));
        later = tt;
        ends = inl refl;
        world = world;
      }
      | inr said ↦ record {
        parts = [];
        ending = finish_text (Body Chunked) [];
        sent = r.sent ∙ ap (λ o. l.written ++ o) said.1
            ∙ sym (append_assoc l.written l.standing.output (finish_text l.standing.writing []))
            ∙ ap (λ w. sent_to l ++ finish_text w []) chunked;
        later = tt;
        ends = inr (r.phase, refl);
        world = world;
      }
    ]

-- ---- one that asks, of which these bytes came already
record Answered (past : Past) (came : List ℕ) (x : Standing) (turns : List Turn) (f : Life) : Type 0 where
  before : List Turn
  source : Source
  own_only : Bool
  bytes : List ℕ
  after : List Turn
  turn : turns ≡ before ++ bytes_come source own_only bytes ∷ after
  kept_then : source.past ≡ past_behind past before
  told : Standing
  hears : Hears source own_only (came ++ (bytes_in before ++ bytes)) x told
  parts : List Part
  ending : List ℕ
  sent : sent_to f ≡ told.output ++ (chunks parts ++ ending)
  later : AllByRecursion IsLater parts
  only : (IsLive told → ⊥) → (parts ≡ []) × (ending ≡ [])
  ends : (ending ≡ []) ⊎ ((f.standing.phase ≡ Closing) × (ending ≡ finish_text (Body Chunked) []))
  world : IsLive told → run (begins past told.due) (steps_of turns) ≡ at f.past f.standing.due (carried parts)

-- the same behind a turn in which it was told nothing
earlier : (past past' : Past) (came came' : List ℕ) (x : Standing) (turn : Turn) (turns : List Turn) (f : Life)
    → ((n : ℕ) → run (begins past n) (steps_of (turn ∷ turns)) ≡ run (begins past' n) (steps_of turns))
    → ((before : List Turn) → past_behind past' before ≡ past_behind past (turn ∷ before))
    → ((before : List Turn) (bytes : List ℕ) → came' ++ (bytes_in before ++ bytes)
    ≡ came ++ (bytes_in (turn ∷ before) ++ bytes))
    → (sent_to f ≡ []) ⊎ Answered past' came' x turns f → (sent_to f ≡ []) ⊎ Answered past came x (turn ∷ turns) f
earlier past past' came came' x turn turns f world keeps more (inl none) = inl none
earlier past past' came came' x turn turns f world keeps more (inr h) =
    let P : List ℕ → Type 0 = λ all. Hears h.source h.own_only all x h.told in
    inr (record {
      before = turn ∷ h.before;
      source = h.source;
      own_only = h.own_only;
      bytes = h.bytes;
      after = h.after;
      turn = ap (λ all. turn ∷ all) h.turn;
      kept_then = h.kept_then ∙ keeps h.before;
      told = h.told;
      hears = subst P (more h.before h.bytes) h.hears;
      parts = h.parts;
      ending = h.ending;
      sent = h.sent;
      later = h.later;
      only = h.only;
      ends = h.ends;
      world = λ live. world h.told.due ∙ h.world live;
    })

-- it is told all at once, and closed
closes_told : (turns : List Turn) (l f : Life) (source : Source) (own_only : Bool) (bytes : List ℕ) (y : Standing)
    → l.written ≡ [] → source.past ≡ l.past → Hears source own_only (l.came ++ bytes) l.standing y
    → y.phase ≡ Closing → Runs (record l { came = l.came ++ bytes; standing = y }) turns f
    → Answered l.past l.came l.standing (bytes_come source own_only bytes ∷ turns) f
closes_told turns l f source own_only bytes y none kept_then hears closed h =
    let m : Life = record l { came = l.came ++ bytes; standing = y } in
    let r = rests turns m f closed h in
    record {
      before = [];
      source = source;
      own_only = own_only;
      bytes = bytes;
      after = turns;
      turn = refl;
      kept_then = kept_then;
      told = y;
      hears = hears;
      parts = [];
      ending = [];
      sent = r.sent ∙ ap (λ o. o ++ y.output) none ∙ sym (append-nil y.output);
      later = tt;
      only = λ other. (refl, refl);
      ends = inl refl;
      world = λ live. cc (live, closed);
    }

-- it gets events from then on
opens_told : (turns : List Turn) (l f : Life) (source : Source) (own_only : Bool) (bytes : List ℕ) (y : Standing)
    → l.written ≡ [] → source.past ≡ l.past → Hears source own_only (l.came ++ bytes) l.standing y → IsLive y
    → y.writing ≡ Body Chunked → Runs (record l { came = l.came ++ bytes; standing = y }) turns f
    → Answered l.past l.came l.standing (bytes_come source own_only bytes ∷ turns) f
opens_told turns l f source own_only bytes y none kept_then hears live chunked h =
    let m : Life = record l { came = l.came ++ bytes; standing = y } in
    let g = goes turns m f [] live chunked h in
    record {
      before = [];
      source = source;
      own_only = own_only;
      bytes = bytes;
      after = turns;
      turn = refl;
      kept_then = kept_then;
      told = y;
      hears = hears;
      parts = g.parts;
      ending = g.ending;
      sent = g.sent ∙ ap (λ o. (o ++ y.output) ++ (chunks g.parts ++ g.ending)) none;
      later = g.later;
      only = λ other. absurd (other live);
      ends = g.ends;
      world = λ other. g.world;
    }

asks : (turns : List Turn) (l f : Life) → l.standing.phase ≡ Asking → l.standing.output ≡ [] → l.written ≡ []
    → Runs l turns f → (sent_to f ≡ []) ⊎ Answered l.past l.came l.standing turns f
asks [] l f asking output written h =
    inl (ap sent_to h ∙ ap (λ o. o ++ l.standing.output) written ∙ output)
asks (line_comes line ∷ turns) l f asking output written h =
    let m : Life = record l { past = with_line l.past line } in
    let P : Life → Type 0 = λ v. Runs v turns f in
    earlier l.past m.past l.came l.came l.standing (line_comes line) turns f (λ n. refl) (λ before. refl)
    (λ before bytes. refl) (asks turns m f asking output written (subst P h.1 h.2))
asks (bytes_come source own_only bytes ∷ turns) l f asking output written h =
    let y = h.0.standing in
    let P : Life → Type 0 = λ v. Runs v turns f in
    let Q : Standing → Type 0 = λ s. Runs (record l { came = l.came ++ bytes; standing = s }) turns f in
    let next = subst P h.1.0 h.2 in
    let hears = h.1.2 asking in
    elim (h.1.2 asking) [
      | inl (inl awaited) ↦
          let m : Life = record l { came = l.came ++ bytes } in
          earlier l.past l.past l.came m.came l.standing (bytes_come source own_only bytes) turns f (λ n. refl)
          (λ before. refl) (λ before more. append_assoc l.came bytes (bytes_in before ++ more)
          ∙ ap (λ all. l.came ++ all) (sym (append_assoc bytes (bytes_in before) more)))
          (asks turns m f asking output written (subst Q awaited.same next))
      | inl (inr refused) ↦ inr (closes_told turns l f source own_only bytes y written h.1.1 hears refused.phase next)
      | inr (inl answered) ↦ elim answered.replies.phase [
        | inl live ↦ inr (opens_told turns l f source own_only bytes y written h.1.1 hears live
            (answered.replies.opened live).3 next)
        | inr closed ↦ inr (closes_told turns l f source own_only bytes y written h.1.1 hears closed next)
      ]
      | inr (inr closes) ↦ inr (closes_told turns l f source own_only bytes y written h.1.1 hears
          (ap (λ (s : Standing). s.phase) closes) next)
    ]
asks (is_sent events bytes ∷ turns) l f asking output written h =
    let y = h.0.standing in
    let wrote = h.1.3 (λ live. cc (live, asking)) in
    let nothing : bytes ++ y.output ≡ [] = wrote.1.output ∙ output in
    let none : bytes ≡ [] = none_before bytes y.output nothing in
    let same : y ≡ l.standing =
    wrote.1.same ∙ ap (λ o. record (l.standing) { output = o }) (none_behind bytes y.output nothing ∙ sym output) in
    let still : l.written ++ bytes ≡ [] = ap (λ o. o ++ bytes) written ∙ none in
    let m : Life = record l { written = l.written ++ bytes } in
    let P : Life → Type 0 = λ v. Runs v turns f in
    let Q : Standing → Type 0 = λ s. Runs (record l { standing = s; written = l.written ++ bytes }) turns f in
    earlier l.past l.past l.came l.came l.standing (is_sent events bytes) turns f
    (λ n. ap (λ w. run w (steps_of turns)) (none_step l.past n events [] wrote.0)) (λ before. refl)
    (λ before more. refl) (asks turns m f asking output still (subst Q same (subst P h.1.0 h.2)))
asks (is_assured ∷ turns) l f asking output written h =
    let y = h.0.standing in
    let same : y ≡ l.standing = elim h.1.1 [
      | inl same ↦ same
      | inr says ↦ cc (says.0, asking)
    ] in
    let P : Life → Type 0 = λ v. Runs v turns f in
    let Q : Standing → Type 0 = λ s. Runs (record l { standing = s }) turns f in
    earlier l.past l.past l.came l.came l.standing is_assured turns f (λ n. refl) (λ before. refl)
    (λ before bytes. refl) (asks turns l f asking output written (subst Q same (subst P h.1.0 h.2)))
asks (is_ended ∷ turns) l f asking output written h =
    let y = h.0.standing in
    let over = h.1.1 in
    let same : y.output ≡ l.standing.output = elim over.output [
      | inl same ↦ same
      | inr said ↦ cc (said.0, asking)
    ] in
    let m : Life = record l { standing = y } in
    let P : Life → Type 0 = λ v. Runs v turns f in
    let r = rests turns m f over.phase (subst P h.1.0 h.2) in
    inl (r.sent ∙ ap (λ o. o ++ y.output) written ∙ same ∙ output)

-- ---- the law
told_once : (past : Past) (x : Standing) (turns : List Turn) (f : Life) → Answered past [] x turns f
    → IsTold past x turns f
told_once past x turns f h =
    let steps = steps_of turns in
    let all = from h.told.due (events_in past steps) in
    let B : World → Type 0 = λ w. (rest : List Event) × (w.sent ++ rest ≡ all) in
    let E : World → Type 0 = λ w. IsLost w ⊎ (w.sent ++ waiting w ≡ all) in
    record {
      before = h.before;
      source = h.source;
      own_only = h.own_only;
      bytes = h.bytes;
      after = h.after;
      turn = h.turn;
      kept_then = h.kept_then;
      told = h.told;
      hears = h.hears;
      parts = h.parts;
      ending = h.ending;
      sent = h.sent;
      later = h.later;
      only = h.only;
      ends = h.ends;
      once = λ live. subst B (h.world live) (beginning_once_lem past h.told.due steps);
      whole = λ live. subst E (h.world live) (each_once_lem past h.told.due steps);
    }

pub whole_life_lem : WholeLife
whole_life_lem past x turns life new h =
    elim (asks turns (born past x) life new.0 new.1 refl h) [
      | inl none ↦ inl none
      | inr answered ↦ inr (told_once past x turns life answered)
    ]
