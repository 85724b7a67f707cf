-- The messages that tell a store are each answered with 00, whatever groups are taken in between.
use Rattle.std.proofs.Common.{◌≡◌, ℕ, zero, suc, ◌+◌, ◌≤◌, ◌==◌, ◌&&◌, ◌||◌, Bool, true, false, if◌then◌else◌}
use Rattle.std.proofs.Common.{nat_lt, List, [], ◌∷◌, ◌++◌, length, map, take, drop, append-nil, append_assoc}
use Rattle.std.proofs.Common.{length-append, Some, None, Ok, refl, ap, sym, subst, ◌∙◌, arith, eq-eqb}
use Rattle.std.specs.Prelude.{slice_get}
use Rattle.std.specs.List.{AllByRecursion}
use Rattle.std.proofs.lemmas.Bool.{ne_eqb, false≢true}
use Rattle.std.proofs.lemmas.List.{take-append-drop}
use Rattle.uecp_elements.specs.declared.code.Code.{Code}
use Rattle.uecp_elements.specs.declared.code.Code.TheVariants.{Applied, OutOfRange, BufferFull}
use Rattle.uecp_elements.specs.Grammar.{Element, Pi, Ps, TaTp, Ms, Pty, Rt, NoText, Text, Select, Group, Ack}
use Rattle.uecp_elements.specs.Grammar.{Reading, Reads, spelling}
use Rattle.uecp_elements.specs.Reading.{items, items_of}
use Rattle.uecp_elements.specs.Folding.{folded}
use Rattle.uecp_elements.proofs.Public.{has_reading, only_reading}
use Rattle.rds_store.specs.declared.group.Group.{Group as WaitingGroup}
use Rattle.rds_store.specs.Value.{Store}
use Rattle.rds_store.specs.Content.{adds, is_wrong_rule}
use Rattle.rds_store.specs.Refusals.{code_of}
use Rattle.rds_store.specs.Put.{put}
use Rattle.rds_store.specs.Step.{step, group_taken, whole_or_none}
use Rattle.rds_store.specs.Laws.{PutsEach}
use Rattle.rds_store.proofs.Public.{one_element}
use Rattle.uecp_link.specs.Once.{message_at, at_first}
use Rattle.uecp_link.specs.History.{Act, Message, Taking}
use Rattle.uecp_link.specs.Fold.{codes_after}
use Rattle.uecp_link.specs.Holds.{history_by, line_from}
use Rattle.uecp_link.proofs.Public.{holds_from, headline_from}
use Rattle.store_phrases.specs.Said.{said_of}
use Rattle.store_phrases.specs.Station.{IsStation}
use Rattle.store_phrases.specs.Laws.{told}
use Rattle.store_phrases.proofs.Public.{IsSayable, all_sayable, are_stations, said_by_elements}
use Rattle.promises.specs.Made.{IsButTaken}
use Rattle.promises.specs.StationLaws.{SaidStationIsApplied}
use Rattle.promises.proofs.StationTelling.{told_is, holds_over}
use Rattle.promises.proofs.StationTurns.{AreApplied, said_in, first_ones}
use Rattle.promises.proofs.Taking.{with, put_but, take_but}

-- ---- A message of one element.

items_alone : (e : Element) → IsSayable e → items (spelling e) ≡ Ok e ∷ []
items_alone e h =
    let alone : Reading = record { elements = e ∷ []; fault = None } in
    let reads : Reads (spelling e) alone = record {
      rest = [];
      each = (h.0, tt);
      joined = sym (append-nil (spelling e ++ []) ∙ append-nil (spelling e));
      end = refl;
    } in
    let one = has_reading (spelling e) h.1 in
    one.2 ∙ ap items_of (only_reading (spelling e) h.1 one.0 alone one.1 reads)

step_alone : (x : Store) (e : Element) → IsSayable e → step x (spelling e) ≡ put x e
step_alone x e h = ap (λ is. whole_or_none x (folded put x is)) (items_alone e h) ∙ one_element x e

-- ---- A group finds room where it found room among more.

by_room : (a b c : Bool) → (if a then OutOfRange else if b then BufferFull else Applied) ≡ Applied
    → (b ≡ false → c ≡ false) → (if a then OutOfRange else if c then BufferFull else Applied) ≡ Applied
by_room true b c h fewer = cc
by_room false true c h fewer = cc
by_room false false c h fewer = ap (λ (r : Bool). if r then BufferFull else Applied) (fewer refl)

fewer_full : (a : Bool) (n m : ℕ) → n ≤ 32 → m ≤ n → (a && (n == 32)) ≡ false → (a && (m == 32)) ≡ false
fewer_full false n m most fewer h = refl
fewer_full true n m most fewer h =
    ne_eqb m 32 (λ full. false≢true (sym h ∙ eq-eqb n 32 (omega (arith, most, fewer, full))))

with_room : (y : Store) (groups : List WaitingGroup) → length y.groups ≤ 32 → length groups ≤ length y.groups
    → (e : Element) → code_of y e ≡ Applied → code_of (with y groups) e ≡ Applied
with_room y groups most fewer (Pi d p n) h = h
with_room y groups most fewer (Ps d p n) h = h
with_room y groups most fewer (TaTp d p n) h = h
with_room y groups most fewer (Ms d p n) h = h
with_room y groups most fewer (Pty d p n) h = h
with_room y groups most fewer (Rt d p NoText) h = h
with_room y groups most fewer (Rt d p (Text n b)) h = h
with_room y groups most fewer (Select d) h = h
with_room y groups most fewer (Group k m a b) h =
    by_room (nat_lt 0x1F k || is_wrong_rule m) (adds m && (length y.groups == 32)) (adds m && (length groups == 32)) h
    (fewer_full (adds m) (length y.groups) (length groups) most fewer)
with_room y groups most fewer (Ack c n) h = h

put_applied : (t : ℕ) (y x : Store) (e : Element) → length y.groups ≤ 32 → IsButTaken t y x → (put y e).1 ≡ Applied
    → (put x e).1 ≡ Applied
put_applied t y x e most h one =
    let all : length y.groups ≡ length h.gone + length x.groups =
    ap length h.groups ∙ length-append h.gone x.groups in
    ap (λ (z : Store). code_of z e) h.others
    ∙ with_room y x.groups most (omega (arith, all)) e one

-- ---- A history.

module _ (sent : List (List ℕ)) where
  pub codes_applied : (t : ℕ) (y x after : Store) (es : List Element) (rest : List (List ℕ)) (acts : List Act)
      → AllByRecursion IsSayable es → IsStation y → IsButTaken t y x → PutsEach y es after
      → said_in sent acts ++ rest ≡ map spelling es → AreApplied (codes_after step group_taken sent x acts)
  codes_applied t y x after es rest [] all station h puts is = tt
  codes_applied t y x after es rest (Taking ∷ acts) all station h puts is =
      codes_applied (t + 1) y (group_taken x).0 after es rest acts all station (take_but t y x h) puts is
  codes_applied t y x after [] rest (Message k ∷ acts) all station h puts is = absurd (let bad : ⊥ = cc in bad)
  codes_applied t y x after (e ∷ es) rest (Message k ∷ acts) all station h puts is =
      let same : message_at sent k ≡ spelling e = cc in
      let later : said_in sent acts ++ rest ≡ map spelling es = cc in
      let stepped : step x (message_at sent k) ≡ put x e = ap (step x) same ∙ step_alone x e all.0 in
      let applied : (put x e).1 ≡ Applied = put_applied t y x e station.few_groups h puts.0 in (
        ap (λ (r : Store × Code). r.1) stepped ∙ applied,
        codes_applied t (put y e).0 (step x (message_at sent k)).0 after es rest acts all.1
            (are_stations.element y e station all.0.0 all.0.1)
            (subst (λ (r : Store × Code). IsButTaken t (put y e).0 r.0) (sym stepped)
            (put_but t y x e h puts.0 applied)) puts.1 later,
      )

each_applied : (cs : List Code) (k : ℕ) (c : Code) → AreApplied cs → slice_get cs k ≡ Some c → c ≡ Applied
each_applied [] k c all h = absurd (let bad : ⊥ = cc in bad)
each_applied (x ∷ cs) zero c all h = let same : x ≡ c = cc in sym same ∙ all.0
each_applied (x ∷ cs) (suc k) c all h = each_applied cs k c all.1 h

pub said_station_is_applied_lem : SaidStationIsApplied
said_station_is_applied_lem v e ready shut alike events outcomes line once plays more sent k code is =
    let acts : List Act = history_by events outcomes in
    let headline = headline_from step group_taken e ready shut events outcomes line once plays in
    let holds = holds_over step group_taken events outcomes (line_from e) line (at_first e.value) once plays
    (holds_from e shut) in
    let n : ℕ = length line.codes in
    let first : said_in line.sent acts ≡ take n line.sent =
    ap (map (message_at line.sent)) headline.order ∙ first_ones line.sent n headline.applied.0 in
    let all : said_in line.sent acts ++ (drop n line.sent ++ more) ≡ map spelling (said_of v) =
    ap (λ (ms : List (List ℕ)). ms ++ (drop n line.sent ++ more)) first
    ∙ (sym (append_assoc (take n line.sent) (drop n line.sent) more)
    ∙ (ap (λ (ms : List (List ℕ)). ms ++ more) (take-append-drop n line.sent) ∙ sent)) in
    let codes : AreApplied (codes_after step group_taken line.sent e.value acts) =
    codes_applied line.sent 0 e.value e.value (told v e.value) (said_of v) (drop n line.sent ++ more) acts
    (all_sayable v alike.said) alike.held (record { gone = []; groups = refl; few = omega arith; others = refl })
    (said_by_elements v e.value alike) all in
    let has = told_is step group_taken events outcomes (line_from e) line (at_first e.value) once plays k code is in
    each_applied line.codes k code (subst AreApplied (sym headline.codes) codes) (holds.codes k ∙ has.0)
