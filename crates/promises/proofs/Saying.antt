-- What is said in words without `same`, `bits` and `raw` keeps the toggle of each text set.
use Rattle.std.proofs.Common.{◌≡◌, ℕ, zero, suc, ◌-◌, Bool, true, false, ◌&&◌, List, [], ◌∷◌, ◌++◌, map, replicate}
use Rattle.std.proofs.Common.{flat_map, Ok, Option, Some, None, inl, inr, refl, sym, ap, subst, ◌∙◌, cond, append-nil}
use Rattle.std.proofs.Common.{slice_get, length, take, ◌≤◌, ◌<◌, arith}
use Rattle.std.proofs.lemmas.List.{length-take-le}
use Rattle.std.proofs.Common.{if◌then◌else◌, eqb, nat_lt}
use Rattle.std.specs.Prelude.{unwrap_or}
use Rattle.std.specs.List.{AllByRecursion}
use Rattle.std.specs.FinMap.{get, from_entries}
use Rattle.std.specs.Map.{lookup}
use Rattle.std.specs.Option.{option_map, option_and_then}
use Rattle.std.proofs.lemmas.Bool.{eq-eqb}
use Rattle.uecp_elements.specs.Grammar.{Element, Pi, Ps, TaTp, Ms, Pty, Rt, NoText, Text, Select, Group, Ack, spelling}
use Rattle.uecp_elements.specs.Grammar.{AreBytes}
use Rattle.uecp_elements.specs.Reading.{items}
use Rattle.uecp_elements.specs.Folding.{is_applied, folded}
use Rattle.uecp_elements.proofs.Public.{reads_items}
use Rattle.rds_text.specs.declared.programme_type.Region.{Region}
use Rattle.uecp_phrases.specs.Laws.{Turns, AreTurning}
use Rattle.uecp_phrases.proofs.Public.{texts_turn}
use Rattle.titles.specs.declared.title.Title.{Title}
use Rattle.titles.specs.declared.title.Title.TheVariants as title
use Rattle.titles.specs.Titles.{GivesTitle}
use Rattle.titles.specs.Cut.{IsCut, IsCutBehind}
use Rattle.rds_store.specs.declared.group.Group.{Group as WaitingGroup}
use Rattle.rds_store.specs.Value.{Store, ServiceData, StoredText, place_cmp}
use Rattle.rds_store.specs.Content.{adds, radio_text, taken, opening_service}
use Rattle.rds_store.specs.Names.{names}
use Rattle.rds_store.specs.Put.{put}
use Rattle.rds_store.specs.Step.{step, element_by_element, group_taken, first_taken}
use Rattle.rds_store.specs.Opening.{opening}
use Rattle.rds_store.specs.Kept.{in_set}
use Rattle.rds_store.proofs.Public.{changes_named_places_alone, get-all_places, all_places-opening, lengths-opening}
use Rattle.carousel.specs.Carousel.{Carousel}
use Rattle.carousel.specs.Next.{aired, is_queued}
use Rattle.promises.specs.AirLaws.{Toggles}
use Rattle.promises.specs.Said.{Event, Comes, GoesOut, stores_of, IsTitled, IsSaid, IsSaidSo, EachToggles}
use Rattle.promises.specs.Said.{TogglesStaySet, title_message}
use Rattle.promises.specs.Said.{NoSaidTextIsMixed}
use Rattle.promises.proofs.Mixing.{all_behind, no_text_is_mixed, no_text_is_mixed_over_a_start}

abbrev AreSet : List StoredText → Type 0
AreSet texts = AllByRecursion (λ (t : StoredText). t.toggle ≡ true) texts

-- ---- One element.
added : (old : List StoredText) (new : StoredText) → AreSet old → new.toggle ≡ true → AreSet (old ++ new ∷ [])
added [] new all is = (is, tt)
added (t ∷ old) new all is = (all.0, added old new all.1 is)

buffered_set : (b : Bool) (old : List StoredText) (new : StoredText) → AreSet old → new.toggle ≡ true
    → AreSet (if b then old ++ new ∷ [] else new ∷ [])
buffered_set true old new all is = added old new all is
buffered_set false old new all is = (is, tt)

taken_set : (e : Element) (s : ServiceData) → Turns e → AreSet s.texts → AreSet (taken e s).texts
taken_set (Pi dsn psn n) s turns all = all
taken_set (Ps dsn psn name) s turns all = all
taken_set (TaTp dsn psn raw) s turns all = all
taken_set (Ms dsn psn raw) s turns all = all
taken_set (Pty dsn psn raw) s turns all = all
taken_set (Rt dsn psn NoText) s turns all = tt
taken_set (Rt dsn psn (Text head bytes)) s turns all =
    buffered_set (adds head) s.texts (radio_text head bytes) all (eq-eqb _ 1 turns)
taken_set (Select dsn) s turns all = all
taken_set (Group kind mode block3 block4) s turns all = all
taken_set (Ack c counter) s turns all = all

put_set : (v : Store) (e : Element) → Turns e → EachToggles v → EachToggles (put v e).0
put_set v e turns each place s is =
    by (get v.places place) refl (sym (changes_named_places_alone v e place) ∙ is)
  where
    changed : (b : Bool) (old : ServiceData) → AreSet old.texts → AreSet (if b then taken e old else old).texts
    changed true old all = taken_set e old turns all
    changed false old all = all

    by : (o : Option ServiceData) → get v.places place ≡ o
        → option_map (λ s. if is_applied (put v e).1 && names v e place then taken e s else s) o ≡ Some s
        → AreSet s.texts
    by None at same = cc
    by (Some old) at same =
        let one : (if is_applied (put v e).1 && names v e place then taken e old else old) ≡ s = cc in
        subst (λ (s : ServiceData). AreSet s.texts) one
        (changed (is_applied (put v e).1 && names v e place) old (each place old at))

-- ---- A message.
folded_set : (es : List Element) (v : Store) → AllByRecursion Turns es → EachToggles v
    → EachToggles (folded put v (map Ok es ++ [])).0
unfolding folded
folded_set [] v turning each = each
folded_set (e ∷ es) v turning each =
    by (is_applied (put v e).1) (put_set v e turning.0 each)
    (folded_set es (put v e).0 turning.1 (put_set v e turning.0 each))
  where
    by : (b : Bool) → EachToggles (put v e).0 → EachToggles (folded put (put v e).0 (map Ok es ++ [])).0
        → EachToggles (if b then folded put (put v e).0 (map Ok es ++ []) else put v e).0
    by true one all = all
    by false one all = one

turning_items : (message : List ℕ) (turning : AreTurning message) → AreBytes message
    → items message ≡ map Ok turning.elements ++ []
turning_items message turning bytes =
    reads_items message (record { elements = turning.elements; fault = None }) bytes (record {
      rest = [];
      each = turning.each;
      joined = turning.joined ∙ sym (append-nil (flat_map spelling turning.elements));
      end = refl;
    })

-- a text that is cut has room
within : (text : List ℕ) (count : ℕ) → 64 < length text → IsCutBehind text count → length (take count text) ≤ 64
within text count many (inl (more, most, ends, none)) =
    let len = length-take-le count text (omega (arith, most, many)) in omega (arith, len, most)
within text count many (inr (same, none)) =
    let len = length-take-le count text (omega (arith, same, many)) in omega (arith, len, same)

cut_has_room : (text shown : List ℕ) → IsCut text shown → length shown ≤ 64
cut_has_room text shown (inl (few, is)) = subst (λ t. length t ≤ 64) (sym is) few
cut_has_room text shown (inr (many, (count, behind, is))) =
    subst (λ t. length t ≤ 64) (sym is) (within text count many behind)

-- the RadioText of a title turns the flag
title_turns : (service : ℕ) (text message : List ℕ) → message ≡ spelling (Rt 0 service (Text 1 text))
    → length text ≤ 64 → AreTurning message
title_turns service text message is few = record {
  elements = Rt 0 service (Text 1 text) ∷ [];
  joined = is ∙ sym (append-nil (spelling (Rt 0 service (Text 1 text))));
  each = (few, tt);
  turning = (refl, tt);
}

titled_turns : (message : List ℕ) → IsTitled message → AreTurning message
titled_turns message titled = by titled.given titled.gives titled.is
  where
    own : (m : List ℕ) → Some m ≡ Some message → AreTurning m → AreTurning message
    own m same turning = let is : m ≡ message = cc in subst AreTurning is turning

    by : (given : Title) → GivesTitle titled.titles titled.line given → title_message given ≡ Some message
        → AreTurning message
    by title.Nothing gives is = absurd cc
    by (title.Stands m) (can, (some, (text, stands, eq))) is =
        let (bytes, are, whole, few) = stands in
        own m is (title_turns titled.titles.service text m eq few)
    by (title.Fits m shown) (can, (fit, none, (text, made, eq, told))) is =
        let (bytes, fitted, left, cut) = made in
        own m is (title_turns titled.titles.service text m eq
        (cut_has_room (titled.titles.prefix.now ++ bytes) text cut))

said_turns : (region : Region) (message : List ℕ) → IsSaidSo region message → AreTurning message
said_turns region message (inl said) = texts_turn region said.tokens message said.plain said.says
said_turns region message (inr titled) = titled_turns message titled

said_bytes : (region : Region) (message : List ℕ) → IsSaidSo region message → AreBytes message
said_bytes region message (inl said) = said.bytes
said_bytes region message (inr titled) = titled.bytes

message_set : (region : Region) (v : Store) (message : List ℕ) → IsSaidSo region message → EachToggles v
    → EachToggles (step v message).0
message_set region v message said each = by (is_applied (element_by_element v message).1)
  where
    turning : AreTurning message
    turning = said_turns region message said

    all_put : EachToggles (element_by_element v message).0
    all_put = subst (λ is. EachToggles (folded put v is).0)
        (sym (turning_items message turning (said_bytes region message said)))
        (folded_set turning.elements v turning.turning each)

    by : (b : Bool) → EachToggles (if b then (element_by_element v message).0 else v)
    by true = all_put
    by false = each

-- ---- A group that goes out.
take_set : (v : Store) → EachToggles v → EachToggles (group_taken v).0
take_set v each = by v.groups
  where
    by : (groups : List WaitingGroup) → EachToggles (first_taken v groups).0
    by [] = each
    by (g ∷ gs) = each

aired_set : (v : Store) (c : Carousel) → EachToggles v → EachToggles (aired v c).1
aired_set v c each = by (is_queued v c)
  where
    by : (b : Bool) → EachToggles (if b then (group_taken v).0 else v)
    by true = take_set v each
    by false = each

-- ---- A new store.
module _ (sets : ℕ) (services : List ℕ) where
  abbrev held : List (ℕ × List ServiceData)
  held = map (λ n. (n, replicate sets opening_service)) services

  opened_at : (q : ℕ × ℕ) → get (opening sets services).places q
      ≡ option_and_then (λ r. in_set 1 r q.0) (lookup (eqb q.1) held)
  opened_at q = ap (λ es. get (from_entries {R = place_cmp} es) q) (sym (all_places-opening sets services))
      ∙ get-all_places sets q.0 q.1 held (lengths-opening sets services)

  new_in : (n k : ℕ) (s : ServiceData) → slice_get (replicate n opening_service) k ≡ Some s → AreSet s.texts
  new_in zero k s h = none_some h
    where
      none_some : slice_get (replicate zero opening_service) k ≡ Some s → AreSet s.texts
      none_some h = cc
  new_in (suc n) zero s h =
      let same : opening_service ≡ s = cc in subst (λ (s : ServiceData). AreSet s.texts) same tt
  new_in (suc n) (suc k) s h = new_in n k s h

  opened_set : EachToggles (opening sets services)
  opened_set q s h = by services (sym (opened_at q) ∙ h)
    where
      none_some : None ≡ Some s → AreSet s.texts
      none_some e = cc

      in_one : (b : Bool) → (if b then None else slice_get (replicate sets opening_service) (q.0 - 1)) ≡ Some s
          → AreSet s.texts
      in_one true e = none_some e
      in_one false e = new_in sets (q.0 - 1) s e

      by : (ns : List ℕ) → option_and_then (λ r. in_set 1 r q.0)
          (lookup (eqb q.1) (map (λ n. (n, replicate sets opening_service)) ns)) ≡ Some s → AreSet s.texts
      by [] e = none_some e
      by (n ∷ ns) e = found (eqb q.1 n) e (by ns)
        where
          found : (b : Bool) → option_and_then (λ r. in_set 1 r q.0) (cond b (Some (replicate sets opening_service))
              (lookup (eqb q.1) (map (λ n. (n, replicate sets opening_service)) ns))) ≡ Some s
              → (option_and_then (λ r. in_set 1 r q.0)
              (lookup (eqb q.1) (map (λ n. (n, replicate sets opening_service)) ns)) ≡ Some s → AreSet s.texts)
              → AreSet s.texts
          found true e more = in_one (nat_lt q.0 1) e
          found false e more = more e

pub toggles_stay_set : TogglesStaySet
toggles_stay_set = record {
  opened = opened_set;
  message = message_set;
  take = take_set;
}

-- ---- On the air.
main_set : (v : Store) → EachToggles v → Toggles v
main_set v each = by (slice_get v.services 0)
  where
    in_place : (number : ℕ) (o : Option ServiceData) → get v.places (v.current, number) ≡ o
        → AreSet (unwrap_or o opening_service).texts
    in_place number None at = tt
    in_place number (Some s) at = each (v.current, number) s at

    by : (o : Option ℕ)
        → AreSet (unwrap_or (option_and_then (λ number. get v.places (v.current, number)) o) opening_service).texts
    by None = tt
    by (Some number) = in_place number (get v.places (v.current, number)) refl

stores_set : (region : Region) (events : List Event) (v : Store) (c : Carousel) → AllByRecursion (IsSaid region) events
    → EachToggles v → AllByRecursion Toggles (stores_of events v c)
stores_set region [] v c said each = tt
stores_set region (Comes message ∷ events) v c said each =
    stores_set region events (step v message).0 c said.1 (message_set region v message said.0 each)
stores_set region (GoesOut ∷ events) v c said each =
    (main_set v each, stores_set region events (aired v c).1 (aired v c).2 said.1 (aired_set v c each))

pub no_said_text_is_mixed : NoSaidTextIsMixed
no_said_text_is_mixed region events v c r said each stores stay (inl heard) =
    no_text_is_mixed (stores_of events v c) c r stores (stores_set region events v c said each) stay heard
no_said_text_is_mixed region events v c r said each stores stay (inr start) =
    let vs = stores_of events v c in
    no_text_is_mixed_over_a_start vs c r stores (all_behind vs c (stores_set region events v c said each)) stay start
