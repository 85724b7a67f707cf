-- The elements of a service leave that service, whatever its place had.
use Rattle.std.proofs.Common.{◌≡◌, ℕ, ◌+◌, ◌≤◌, ◌==◌, Bool, true, false, ◌&&◌, List, [], ◌∷◌, ◌++◌}
use Rattle.std.proofs.Common.{map, length, Some, refl, sym, ap, subst, ◌∙◌, arith, if◌then◌else◌}
use Rattle.std.proofs.Common.{append_assoc, append-nil, suc}
use Rattle.std.proofs.lemmas.List.{length-append}
use Rattle.std.proofs.lemmas.Bool.{le-ltb, ne_eqb}
use Rattle.std.specs.List.{AllByRecursion, list_any}
use Rattle.std.specs.FinMap.{get}
use Rattle.uecp_elements.specs.Grammar.{Element, Pty}
use Rattle.rds_store.specs.Value.{StoredText, ServiceData, Store}
use Rattle.rds_store.specs.Names.{address}
use Rattle.rds_store.specs.Content.{taken}
use Rattle.rds_store.specs.Refusals.{is_out_of_range, adds_text, is_full}
use Rattle.rds_store.specs.Put.{put}
use Rattle.rds_store.specs.Laws.{PutsEach}
use Rattle.store_phrases.specs.Said.{values_said, text_said, texts_said}
use Rattle.store_phrases.specs.Said.{service_said}
use Rattle.store_phrases.specs.Station.{IsText, IsService}
use Rattle.store_phrases.proofs.Placed.{placed, placed_again, placed_over, get-placed_there, put_one}
use Rattle.store_phrases.proofs.Bits.{head_text, head_rule, head_right, music_told, tp_told, ta_told}

-- the elements name that place, none is out of range, and each finds room
abbrev pub Find : (set number : ℕ) → List Element → ServiceData → Type 0
Find set number [] s = Unit {0}
Find set number (e ∷ es) s =
    (address e ≡ Some (set, number)) × (is_out_of_range e ≡ false) × ((adds_text e && is_full s) ≡ false)
    × Find set number es (taken e s)

-- what they leave
abbrev pub all_taken : List Element → ServiceData → ServiceData
all_taken [] s = s
all_taken (e ∷ es) s = all_taken es (taken e s)

-- ---- At the place.
pub puts_append : (v w u : Store) (es fs : List Element) → PutsEach v es w → PutsEach w fs u → PutsEach v (es ++ fs) u
puts_append v w u [] fs first more = subst (λ x. PutsEach x fs u) first more
puts_append v w u (e ∷ es) fs first more = (first.0, puts_append (put v e).0 w u es fs first.1 more)

module _ (w : Store) (set number : ℕ) (few : w.sets ≤ 8) (from_1 : 1 ≤ set) (within : set ≤ w.sets)
    (no_zero : 1 ≤ number) (listed : list_any (λ s. number == s) w.services ≡ true) (t : ServiceData)
    (there : get w.places (set, number) ≡ Some t) where
  puts_at : (es : List Element) (s : ServiceData) → Find set number es s
      → PutsEach (placed w set number s) es (placed w set number (all_taken es s))
  puts_at [] s h = refl
  puts_at (e ∷ es) s h =
      let one = put_one (placed w set number s) set number few from_1 within no_zero listed e s h.0 h.1
      (get-placed_there w set number s t there) h.2 in
      let left : (put (placed w set number s) e).0 ≡ placed w set number (taken e s) =
      ap (λ r. r.0) one ∙ placed_over w set number s (taken e s) t there in (
        ap (λ r. r.1) one,
        subst (λ x. PutsEach x es (placed w set number (all_taken es (taken e s)))) (sym left)
            (puts_at es (taken e s) h.3),
      )

  pub puts_all : (es : List Element) (s : ServiceData) → Find set number es t → all_taken es t ≡ s
      → PutsEach w es (placed w set number s)
  puts_all es s h left =
      subst (λ x. PutsEach x es (placed w set number s)) (sym (placed_again w set number t there))
      (subst (λ u. PutsEach (placed w set number t) es (placed w set number u)) left (puts_at es t h))

-- ---- Texts.
module _ (set number : ℕ) where
  text_taken : (is_added : Bool) (t : StoredText) (s : ServiceData) → IsText t
      → taken (text_said set number is_added t) s
      ≡ record s { texts = (if is_added then s.texts ++ t ∷ [] else t ∷ []) }
  text_taken is_added t s h = λ i. record s {
    texts = (if head_rule is_added t h.times i then s.texts ++ head_text is_added t h.times i
        ∷ [] else head_text is_added t h.times i
        ∷ []);
  }

  not_yet_full : (s : ServiceData) (n : ℕ) → length s.texts + suc n ≤ 8 → is_full s ≡ false
  not_yet_full s n h = ne_eqb (length s.texts) 8 (λ e. omega arith)

  no_room_asked : (a b : Bool) → b ≡ false → (a && b) ≡ false
  no_room_asked true b h = h
  no_room_asked false b h = refl

  -- texts that are added, behind those that are there
  added : (ts : List StoredText) (s : ServiceData) → AllByRecursion IsText ts → length s.texts + length ts ≤ 8
      → Find set number (map (text_said set number true) ts) s
      × (all_taken (map (text_said set number true) ts) s ≡ record s { texts = s.texts ++ ts })
  added [] s h few = (tt, λ i. record s { texts = sym (append-nil s.texts) i })
  added (t ∷ ts) s h few =
      let next : ServiceData = record s { texts = s.texts ++ t ∷ [] } in
      let one : taken (text_said set number true t) s ≡ next = text_taken true t s h.0 in
      let longer = length-append s.texts (t ∷ []) in
      let more = added ts next h.1 (omega arith) in (
        (
          refl,
          head_right true t h.0.times,
          no_room_asked (adds_text (text_said set number true t)) (is_full s) (not_yet_full s (length ts) few),
          subst (Find set number (map (text_said set number true) ts)) (sym one) more.0,
        ),
        ap (all_taken (map (text_said set number true) ts)) one ∙ more.1
            ∙ (λ i. record s { texts = append_assoc s.texts (t ∷ []) ts i }),
      )

  texts_left : (ts : List StoredText) (s : ServiceData) → AllByRecursion IsText ts → length ts ≤ 8
      → Find set number (texts_said set number ts) s
      × (all_taken (texts_said set number ts) s ≡ record s { texts = ts })
  texts_left [] s h few = ((refl, refl, refl, tt), refl)
  texts_left (t ∷ ts) s h few =
      let next : ServiceData = record s { texts = t ∷ [] } in
      let one : taken (text_said set number false t) s ≡ next = text_taken false t s h.0 in
      let more = added ts next h.1 (omega arith) in (
        (
          refl,
          head_right false t h.0.times,
          ap (λ b. b && is_full s) (head_rule false t h.0.times),
          subst (Find set number (map (text_said set number true) ts)) (sym one) more.0,
        ),
        ap (all_taken (map (text_said set number true) ts)) one ∙ more.1,
      )

  -- ---- The whole service.
  abbrev values_of : (of : ServiceData) → (texts : List StoredText) → ServiceData
  values_of s texts = record s { texts = texts }

  pty_right : (s : ServiceData) → IsService s → is_out_of_range (Pty set number s.pty) ≡ false
  pty_right s h = le-ltb 0x1F s.pty h.pty

  pub service_left : (s t : ServiceData) → IsService s
      → Find set number (service_said set number s) t × (all_taken (service_said set number s) t ≡ s)
  service_left s t h =
      let before : ServiceData = all_taken (values_said set number s) t in
      let same : before ≡ record s { texts = t.texts } = λ i. record {
        pi = s.pi;
        ps = s.ps;
        tp = tp_told s i;
        ta = ta_told s i;
        music = music_told s.music i;
        pty = s.pty;
        texts = t.texts;
      } in
      let texts = texts_left s.texts before h.texts h.few_texts in (
        (
          refl,
          refl,
          refl,
          (refl, refl, refl, (refl, refl, refl, (refl, refl, refl, (refl, pty_right s h, refl, texts.0)))),
        ),
        texts.1 ∙ (λ i. record (same i) { texts = s.texts }),
      )
