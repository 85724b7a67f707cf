-- What an element that was not refused leaves in a service, its current set and the groups.
use Rattle.std.proofs.Common.{◌≡◌, ℕ, ◌+◌, ◌/◌, ◌<◌, ◌≤◌, ◌==◌, nat_le, Bool, true, false, ◌&&◌}
use Rattle.std.proofs.Common.{List, [], ◌∷◌, ◌++◌, length, Option, Some, None, refl, sym}
use Rattle.std.proofs.Common.{ap, ◌∙◌, arith, if◌then◌else◌}
use Rattle.std.proofs.lemmas.Bool.{false≢true, leb-true, ltb-false, eqb-true, eq-eqb}
use Rattle.std.proofs.lemmas.List.{length-append}
use Rattle.std.specs.Option.{option_map_or}
use Rattle.std.specs.List.{list_any, AllByRecursion}
use Rattle.std.specs.FinMap.{get}
use Rattle.uecp_elements.specs.declared.code.Code.TheVariants.{Applied, DataSet, Service, OutOfRange}
use Rattle.uecp_elements.specs.declared.code.Code.TheVariants.{NotHere, BufferFull}
use Rattle.uecp_elements.specs.Grammar.{Element, Pi, Ps, TaTp, Ms, Pty, Rt, NoText, Text, Select, Group, Ack}
use Rattle.uecp_elements.specs.Grammar.{IsElement, AreBytes, spelling}
use Rattle.rds_store.specs.Bits.{bits_4_to_1}
use Rattle.rds_store.specs.Value.{StoredText, ServiceData, Store}
use Rattle.rds_store.specs.Names.{names, names_set, service_of}
use Rattle.rds_store.specs.Content.{taken, adds, radio_text}
use Rattle.rds_store.specs.Refusals.{is_not_here, is_wrong_set, is_wrong_service, is_out_of_range, has_no_room, code_of}
use Rattle.rds_store.specs.Refusals.{adds_text, has_full_set, is_full, is_full_in}
use Rattle.store_phrases.specs.Station.{IsText, IsService, is_place}
use Rattle.store_phrases.proofs.Places.{in_count}

-- ---- Why an element was not refused.
pub record IsTaken (v : Store) (e : Element) : Type 0 where
  pub here : is_not_here e ≡ false
  pub set : is_wrong_set v e ≡ false
  pub service : is_wrong_service v e ≡ false
  pub range : is_out_of_range e ≡ false
  pub room : has_no_room v e ≡ false

taken_by : (v : Store) (e : Element) (a b c d f : Bool) → is_not_here e ≡ a → is_wrong_set v e ≡ b
    → is_wrong_service v e ≡ c → is_out_of_range e ≡ d → has_no_room v e ≡ f
    → (if a then NotHere else if b then DataSet else if c then Service else if d then OutOfRange
    else if f then BufferFull else Applied) ≡ Applied → IsTaken v e
taken_by v e true b c d f ha hb hc hd hf h = cc
taken_by v e false true c d f ha hb hc hd hf h = cc
taken_by v e false false true d f ha hb hc hd hf h = cc
taken_by v e false false false true f ha hb hc hd hf h = cc
taken_by v e false false false false true ha hb hc hd hf h = cc
taken_by v e false false false false false ha hb hc hd hf h = record {
  here = ha;
  set = hb;
  service = hc;
  range = hd;
  room = hf;
}

pub is_taken : (v : Store) (e : Element) → code_of v e ≡ Applied → IsTaken v e
is_taken v e h = taken_by v e (is_not_here e) (is_wrong_set v e) (is_wrong_service v e) (is_out_of_range e)
    (has_no_room v e) refl refl refl refl refl h

-- ---- What a service has.
times_few : (head : ℕ) → bits_4_to_1 head ≤ 15
times_few head = omega arith

pub word_of : (n : ℕ) → n / 0x100 < 0x100 → n < 0x10000
word_of n h = omega arith

pub all_snoc : {A : Type 0} (P : A → Type 0) (xs : List A) (x : A) → AllByRecursion P xs → P x
    → AllByRecursion P (xs ++ x ∷ [])
all_snoc P [] x h k = (k, tt)
all_snoc P (y ∷ ys) x h k = (h.0, all_snoc P ys x h.1 k)

not_eight : (n : ℕ) → n ≤ 8 → (n == 8) ≡ false → n + 1 ≤ 8
not_eight n few h = let apart : (n ≡ 8 → ⊥) = λ e. false≢true (sym h ∙ eq-eqb n 8 e) in omega arith

few_texts_of : (is_added : Bool) (s : ServiceData) (t : StoredText) → IsService s → (is_added && is_full s) ≡ false
    → length (if is_added then s.texts ++ t ∷ [] else t ∷ []) ≤ 8
few_texts_of true s t h room =
    let longer = length-append s.texts (t ∷ []) in
    let few = not_eight (length s.texts) h.few_texts room in
    omega arith
few_texts_of false s t h room = omega arith

texts_of : (is_added : Bool) (s : ServiceData) (t : StoredText) → IsService s → IsText t
    → AllByRecursion IsText (if is_added then s.texts ++ t ∷ [] else t ∷ [])
texts_of true s t h k = all_snoc IsText s.texts t h.texts k
texts_of false s t h k = (k, tt)

pub taken_service : (e : Element) (s : ServiceData) → IsService s → IsElement e → AreBytes (spelling e)
    → is_out_of_range e ≡ false → (adds_text e && is_full s) ≡ false → IsService (taken e s)
taken_service (Pi d p n) s h element bytes range room = record {
  pi = word_of n bytes.1.1.1.0;
  eight = h.eight;
  name = h.name;
  pty = h.pty;
  few_texts = h.few_texts;
  texts = h.texts;
}
taken_service (Ps d p name) s h element bytes range room = record {
  pi = h.pi;
  eight = element;
  name = bytes.1.1.1;
  pty = h.pty;
  few_texts = h.few_texts;
  texts = h.texts;
}
taken_service (TaTp d p raw) s h element bytes range room = record {
  pi = h.pi;
  eight = h.eight;
  name = h.name;
  pty = h.pty;
  few_texts = h.few_texts;
  texts = h.texts;
}
taken_service (Ms d p raw) s h element bytes range room = record {
  pi = h.pi;
  eight = h.eight;
  name = h.name;
  pty = h.pty;
  few_texts = h.few_texts;
  texts = h.texts;
}
taken_service (Pty d p raw) s h element bytes range room = record {
  pi = h.pi;
  eight = h.eight;
  name = h.name;
  pty = ltb-false 0x1F raw range;
  few_texts = h.few_texts;
  texts = h.texts;
}
taken_service (Rt d p NoText) s h element bytes range room = record {
  pi = h.pi;
  eight = h.eight;
  name = h.name;
  pty = h.pty;
  few_texts = omega arith;
  texts = tt;
}
taken_service (Rt d p (Text head text)) s h element bytes range room = record {
  pi = h.pi;
  eight = h.eight;
  name = h.name;
  pty = h.pty;
  few_texts = few_texts_of (adds head) s (radio_text head text) h room;
  texts = texts_of (adds head) s (radio_text head text) h (record {
    times = times_few head;
    short = element;
    bytes = bytes.1.1.1.1.1;
  });
}
taken_service (Select d) s h element bytes range room = h
taken_service (Group k m x y) s h element bytes range room = h
taken_service (Ack c n) s h element bytes range room = h

-- ---- A text that is added found room where it is named.
named_room : (v : Store) (d head : ℕ) (q : ℕ × ℕ) (s : ServiceData) (o : Option ℕ) → is_place v q ≡ true
    → get v.places q ≡ Some s
    → (names_set d v.current q.0 && option_map_or (λ n. n == q.1) o false) ≡ true
    → (adds head && option_map_or (has_full_set v d) o false) ≡ false → (adds head && is_full s) ≡ false
named_room v d head q s None place at named room = absurd (false≢true (sym (none (names_set d v.current q.0)) ∙ named))
  where
    none : (b : Bool) → (b && false) ≡ false
    none true = refl
    none false = refl
named_room v d head q s (Some n) place at named room = by (adds head) room (is_full s) refl
  where
    both : (a b : Bool) → (a && b) ≡ true → (a ≡ true) × (b ≡ true)
    both true b h = (refl, h)
    both false b h = absurd (false≢true h)

    full_there : is_full s ≡ true → has_full_set v d n ≡ true
    full_there full =
        let parts = both (names_set d v.current q.0) (n == q.1) named in
        let range = both (nat_le 1 q.0) (nat_le q.0 v.sets)
        (both (list_any (λ k. q.1 == k) v.services) (nat_le 1 q.0 && nat_le q.0 v.sets) place).1 in
        let low = leb-true 1 q.0 range.0 in
        let high = leb-true q.0 v.sets range.1 in
        let found : is_full_in v.places q.0 n ≡ true =
        ap (λ k. is_full_in v.places q.0 k) (eqb-true n q.1 parts.1) ∙ ap (λ o. option_map_or is_full o false) at
        ∙ full in
        in_count (λ set. names_set d v.current set && is_full_in v.places set n) v.sets 1 q.0 low (omega arith)
        (λ i. parts.0 i && found i)

    by : (a : Bool) → (a && has_full_set v d n) ≡ false → (b : Bool) → is_full s ≡ b → (a && is_full s) ≡ false
    by false h b e = refl
    by true h true e = absurd (false≢true (sym h ∙ full_there e))
    by true h false e = e

pub room_named : (v : Store) (e : Element) (q : ℕ × ℕ) (s : ServiceData) → IsTaken v e → is_place v q ≡ true
    → get v.places q ≡ Some s → names v e q ≡ true → (adds_text e && is_full s) ≡ false
room_named v (Pi d p n) q s h place at named = refl
room_named v (Ps d p name) q s h place at named = refl
room_named v (TaTp d p raw) q s h place at named = refl
room_named v (Ms d p raw) q s h place at named = refl
room_named v (Pty d p raw) q s h place at named = refl
room_named v (Rt d p NoText) q s h place at named = refl
room_named v (Rt d p (Text head text)) q s h place at named =
    named_room v d head q s (service_of v.services p) place at named h.room
room_named v (Select d) q s h place at named = refl
room_named v (Group k m x y) q s h place at named = refl
room_named v (Ack c n) q s h place at named = refl
