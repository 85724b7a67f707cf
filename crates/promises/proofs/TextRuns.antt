-- The text of a service that stays is shown.
use Rattle.std.proofs.Common.{◌≡◌, ◌≢◌, ◌⊎◌, ℕ, ◌+◌, ◌*◌, ◌/◌, ◌<◌, ◌≤◌, true, false, not, List, [], ◌∷◌, length}
use Rattle.std.proofs.Common.{◌-◌, Option, Some, refl, ap, sym, ◌∙◌, subst, arith, inl, inr}
use Rattle.std.specs.List.{All, AllByRecursion}
use Rattle.std.proofs.lemmas.Bool.{cases_lt, cases_eq}
use Rattle.rds_groups.specs.Groups.{bit, blocks}
use Rattle.rds_store.specs.Value.{Store, ServiceData, StoredText}
use Rattle.rds_groups.specs.Heard.{came}
use Rattle.rds_groups.specs.Shown.{Receiver, hears_own, text_shown}
use Rattle.carousel.specs.Carousel.{Carousel, switched_on, blanks_left}
use Rattle.carousel.specs.Texts.{line_up, segment_count, chosen, text_next}
use Rattle.carousel.specs.Next.{turn, sent, name_next, send_text, next_group, is_waiting}
use Rattle.promises.specs.OnAir.{IsService, IsText, Has, carousel_after}
use Rattle.promises.specs.AirLaws.{TextIsShown, waiting}
use Rattle.promises.proofs.Words.{bit_small}
use Rattle.promises.proofs.AirHearing.{texted_now, text_comes, text_stays, left_same}
use Rattle.promises.proofs.Choice.{IsOn, on_or_off, off_begins, GoesOn, on_goes_on, is_blanked, is_chosen}
use Rattle.promises.proofs.Choice.{stays_started}
use Rattle.promises.proofs.Places.{far, far_below, nearer}
use Rattle.promises.proofs.Steps.{step_is, comes, total, on_air, fine, own_after}
use Rattle.promises.proofs.Tuning.{service_steady}
use Rattle.promises.proofs.AirLines.{text_is_up_to_return}

-- ---- The one text.
next_one : (s : ServiceData) (t : StoredText) → line_up s.texts ≡ t ∷ [] → (c : Carousel)
    → on_air s c ≡ text_next (t ∷ []) c
next_one s t e c = ap (λ (ts : List StoredText). text_next ts c) e

-- where nothing of a start is left
one : (s : ServiceData) (t : StoredText) → line_up s.texts ≡ t ∷ [] → (c : Carousel) → blanks_left c ≡ 0
    → on_air s c ≡ chosen (t ∷ []) c
one s t e c none = next_one s t e c ∙ is_chosen (t ∷ []) c none

pub one_is_on : (s : ServiceData) (t : StoredText) → line_up s.texts ≡ t ∷ [] → (c : Carousel) → blanks_left c ≡ 0
    → IsOn t (on_air s c)
one_is_on s t e c none = subst (IsOn t) (sym (one s t e c none)) (elim (on_or_off t c) [
  | inl on ↦ let g = on_goes_on t c on in record { text = g.text; place = g.place }
  | inr off ↦ subst (IsOn t) (sym (off_begins t c off)) (record { text = refl; place = refl })
])

pub one_goes_on : (s : ServiceData) (t : StoredText) → line_up s.texts ≡ t ∷ [] → (c : Carousel) → blanks_left c ≡ 0
    → IsOn t c → GoesOn t c (on_air s c)
one_goes_on s t e c none on = subst (GoesOn t c) (sym (one s t e c none)) (on_goes_on t c on)

pub one_started : (s : ServiceData) (t : StoredText) → line_up s.texts ≡ t ∷ [] → (c : Carousel) → blanks_left c ≡ 0
    → blanks_left (on_air s c) ≡ 0
one_started s t e c none = ap blanks_left (one s t e c none) ∙ stays_started (t ∷ []) c none

-- its next segment, which only the place, the text, its segment and what is left of a start tell
next_segment : StoredText → Carousel → ℕ
next_segment t c = (text_next (t ∷ []) c).text_segment

segment_blanked : (t : StoredText) (c : Carousel) → 0 < blanks_left c → next_segment t c ≡ 0
unfolding next_segment
segment_blanked t c some = ap (λ (x : Carousel). x.text_segment) (is_blanked (t ∷ []) c some)

segment_chosen : (t : StoredText) (c : Carousel) → blanks_left c ≡ 0
    → next_segment t c ≡ (chosen (t ∷ []) c).text_segment
unfolding next_segment
segment_chosen t c none = ap (λ (x : Carousel). x.text_segment) (is_chosen (t ∷ []) c none)

chosen_same : (t : StoredText) (c d : Carousel) → d.text ≡ c.text → d.place ≡ c.place → d.text_segment ≡ c.text_segment
    → (chosen (t ∷ []) d).text_segment ≡ (chosen (t ∷ []) c).text_segment
chosen_same t c d et ep es = elim (on_or_off t c) [
  | inl on ↦
      let other : IsOn t d = record { text = et ∙ on.text; place = ep ∙ on.place } in
      (on_goes_on t d other).segment ∙ ap (turn (segment_count t.bytes)) es ∙ sym (on_goes_on t c on).segment
  | inr off ↦ elim (on_or_off t d) [
    | inl on ↦
        let back : IsOn t c = record { text = sym et ∙ on.text; place = sym ep ∙ on.place } in
        (on_goes_on t d on).segment ∙ ap (turn (segment_count t.bytes)) es ∙ sym (on_goes_on t c back).segment
    | inr off_too ↦ ap (λ (x : Carousel). x.text_segment) (off_begins t d off_too)
        ∙ sym (ap (λ (x : Carousel). x.text_segment) (off_begins t c off))
  ]
]

segment_same : (t : StoredText) (c d : Carousel) → d.text ≡ c.text → d.place ≡ c.place → d.text_segment ≡ c.text_segment
    → blanks_left d ≡ blanks_left c → next_segment t d ≡ next_segment t c
segment_same t c d et ep es eb = elim (cases_lt 0 (blanks_left c)) [
  | inl some ↦ segment_blanked t d (omega arith) ∙ sym (segment_blanked t c some)
  | inr none ↦
      let zero : blanks_left c ≡ 0 = omega arith in
      segment_chosen t d (eb ∙ zero) ∙ chosen_same t c d et ep es ∙ sym (segment_chosen t c zero)
]

-- behind an empty text comes another, or the text begins
behind_blank : (t : StoredText) (c : Carousel) → c.text ≡ [] → c.text_segment ≡ 1 → next_segment t c ≡ 0
behind_blank t c empty one = elim (cases_lt 0 (blanks_left c)) [
  | inl some ↦ segment_blanked t c some
  | inr none ↦ segment_chosen t c (omega arith) ∙ elim (on_or_off t c) [
    | inl on ↦
        let few : segment_count t.bytes ≡ 1 = ap segment_count (sym on.text ∙ empty) in
        (on_goes_on t c on).segment ∙ ap (turn (segment_count t.bytes)) one ∙ ap (λ n. turn n 1) few
    | inr off ↦ ap (λ (x : Carousel). x.text_segment) (off_begins t c off)
  ]
]

-- ---- A place of it.
record TextIs (t : StoredText) (p : ℕ) (c : Carousel) (r : Receiver) : Type 0 where
  on : IsOn t c
  flag : r.flag ≡ c.flag
  long : r.is_short ≡ false
  at : r.text p ≡ Some (sent t.bytes p)
  started : blanks_left c ≡ 0

came_now : (s : ServiceData) (t : StoredText) → IsService s → line_up s.texts ≡ t ∷ []
    → (p : ℕ) (c : Carousel) (r : Receiver)
    → blanks_left c ≡ 0 → p / 4 ≡ (on_air s c).text_segment
    → TextIs t p (send_text s c).1 (texted_now s (on_air s c) r)
came_now s t ok e p c r none here =
    let d = on_air s c in
    let on = one_is_on s t e c none in
    record {
      on = record { text = on.text; place = on.place };
      flag = refl;
      long = refl;
      at = text_comes s d p r (fine s c ok).are_bytes here ∙ ap (λ (bytes : List ℕ). Some (sent bytes p)) on.text;
      started = one_started s t e c none;
    }

text_kept : (s : ServiceData) (t : StoredText) → IsService s → line_up s.texts ≡ t ∷ []
    → (p : ℕ) (c : Carousel) (r : Receiver)
    → TextIs t p c r → TextIs t p (send_text s c).1 (texted_now s (on_air s c) r)
text_kept s t ok e p c r good =
    let d = on_air s c in
    let g = one_goes_on s t e c good.started good.on in
    elim (cases_eq (p / 4) d.text_segment) [
      | inl here ↦ came_now s t ok e p c r good.started here
      | inr there ↦ record {
        on = record { text = g.text; place = g.place };
        flag = refl;
        long = refl;
        at = text_stays s d (Some _) (Some _) p r there
            ∙ ap (λ (heard : ℕ → Option ℕ). heard p) (left_same d.flag r (good.flag ∙ sym g.flag) good.long) ∙ good.at;
        started = one_started s t e c good.started;
      }
    ]

keeps : (s : ServiceData) (t : StoredText) → IsService s → line_up s.texts ≡ t ∷ [] → (p : ℕ) → (v : Store) → Has s v
    → (c : Carousel) (r : Receiver) → TextIs t p c r
    → TextIs t p (next_group v c).1 (hears_own (came (blocks (next_group v c).0)) r)
keeps s t ok e p v has c r good =
    step_is s v c r (TextIs t p) ok has
    (λ h. record {
      on = record { text = good.on.text; place = good.on.place };
      flag = good.flag;
      long = good.long;
      at = good.at;
      started = good.started;
    })
    (λ h. text_kept s t ok e p c r good)
    (λ h w. record {
      on = record { text = good.on.text; place = good.on.place };
      flag = good.flag;
      long = good.long;
      at = good.at;
      started = good.started;
    })

segment_is_next : (s : ServiceData) (t : StoredText) → line_up s.texts ≡ t ∷ [] → (c : Carousel)
    → next_segment t c ≡ (on_air s c).text_segment
unfolding next_segment
segment_is_next s t e c = ap (λ (x : Carousel). x.text_segment) (sym (next_one s t e c))

wait : StoredText → (place : ℕ) → Carousel → ℕ
wait t p c = 2 * (blanks_left c + far (segment_count t.bytes) (p / 4) (next_segment t c)) + bit (not c.is_other)

extra : Store → ℕ
extra v = 2 * bit (is_waiting v.groups)

below : (s : ServiceData) (t : StoredText) → IsService s → line_up s.texts ≡ t ∷ [] → (c : Carousel)
    → (on_air s c).text_segment < segment_count t.bytes
below s t ok e c = elim (cases_lt 0 (blanks_left c)) [
  | inl some ↦
      let first = ap (λ (x : Carousel). x.text_segment) (is_blanked (line_up s.texts) c some) in omega arith
  | inr none ↦
      subst (λ (bytes : List ℕ). (on_air s c).text_segment < segment_count bytes)
      (one_is_on s t e c (omega arith)).text (fine s c ok).within
]

-- another empty text of a start brings it nearer
blank_nearer : (s : ServiceData) (t : StoredText) → line_up s.texts ≡ t ∷ [] → (p : ℕ) (c : Carousel)
    → 0 < blanks_left c → c.is_other ≡ true → wait t p (send_text s c).1 < wait t p c
unfolding wait
blank_nearer s t e p c some h =
    let is = is_blanked (line_up s.texts) c some in
    let n = segment_count t.bytes in
    let less : blanks_left (send_text s c).1 ≡ blanks_left c - 1 = ap blanks_left is in
    let after_it = behind_blank t (send_text s c).1 (ap (λ (x : Carousel). x.text) is)
    (ap (λ (x : Carousel). x.text_segment + 1) is) in
    omega (
      arith,
      ap (far n (p / 4)) after_it,
      ap (far n (p / 4)) (segment_blanked t c some),
      ap (λ b. bit (not b)) h,
    )

-- another segment brings it nearer
text_nearer : (s : ServiceData) (t : StoredText) → IsService s → line_up s.texts ≡ t ∷ [] → (p : ℕ)
    → p / 4 < segment_count t.bytes
    → (c : Carousel) → blanks_left c ≡ 0 → (on_air s c).text_segment ≢ p / 4 → c.is_other ≡ true
    → wait t p (send_text s c).1 < wait t p c
unfolding wait
text_nearer s t ok e p small c none there h =
    let d = on_air s c in
    let n = segment_count t.bytes in
    let on = one_is_on s t e c none in
    let started = one_started s t e c none in
    let after_it = segment_chosen t (send_text s c).1 started
    ∙ (on_goes_on t (send_text s c).1 (record { text = on.text; place = on.place })).segment in
    let now = segment_is_next s t e c in
    omega (
      arith,
      nearer n (p / 4) d.text_segment (below s t ok e c) small there,
      ap (far n (p / 4)) after_it,
      ap (far n (p / 4)) now,
      ap (λ b. bit (not b)) h,
    )

brings : (s : ServiceData) (t : StoredText) → IsService s → line_up s.texts ≡ t ∷ [] → (p : ℕ)
    → p / 4 < segment_count t.bytes
    → (v : Store) → Has s v → (c : Carousel) (r : Receiver)
    → TextIs t p (next_group v c).1 (hears_own (came (blocks (next_group v c).0)) r)
    ⊎ (wait t p (next_group v c).1 < wait t p c + extra v)
unfolding wait extra
brings s t ok e p small v has c r =
    let n = segment_count t.bytes in
    step_is s v c r (λ d q. TextIs t p d q ⊎ (wait t p d < wait t p c + extra v)) ok has
    (λ h. inr (omega (
      arith,
      ap (λ b. bit (not b)) h,
      ap (far n (p / 4)) (segment_same t c (record c { name = s.ps; name_segment = name_next s c + 1; is_other = true })
          refl refl refl refl),
    )))
    (λ h. elim (cases_lt 0 (blanks_left c)) [
      | inl some ↦ inr (let a = blank_nearer s t e p c some h in omega arith)
      | inr none ↦ elim (cases_eq (on_air s c).text_segment (p / 4)) [
        | inl here ↦ inl (came_now s t ok e p c r (omega arith) (sym here))
        | inr there ↦ inr (let a = text_nearer s t ok e p small c (omega arith) there h in omega arith)
      ]
    ])
    (λ h w. inr (omega (
      arith,
      ap (λ b. bit (not b)) h,
      ap bit w,
      ap (far n (p / 4)) (segment_same t c (record c { is_other = false }) refl refl refl refl),
    )))

total_waiting : (vs : List Store) → total extra vs ≡ 2 * waiting vs
unfolding extra
total_waiting [] = refl
total_waiting (v ∷ vs) = let e = total_waiting vs in omega arith

place_comes : (s : ServiceData) (t : StoredText) → IsService s → line_up s.texts ≡ t ∷ [] → (p : ℕ)
    → p / 4 < segment_count t.bytes
    → (vs : List Store) → AllByRecursion (Has s) vs → (c : Carousel) (r : Receiver)
    → 2 * (blanks_left c + segment_count t.bytes + waiting vs) ≤ length vs
    → TextIs t p (carousel_after vs c) (own_after vs c r)
unfolding wait
place_comes s t ok e p small vs all c r enough =
    let b = bit_small (not c.is_other) in
    let now = segment_is_next s t e c in
    let h = far_below (segment_count t.bytes) (p / 4) (next_segment t c) small
    (let k = below s t ok e c in omega arith) in
    comes s (TextIs t p) (wait t p) extra (keeps s t ok e p) (brings s t ok e p small) vs all c r
    (inr (let w = total_waiting vs in omega arith))

pub one_short : (s : ServiceData) (t : StoredText) → IsService s → line_up s.texts ≡ t ∷ [] → IsText t
one_short s t ok e =
    let f = fine s switched_on ok in
    let on = one_is_on s t e switched_on refl in
    record {
      short = subst (λ (bytes : List ℕ). length bytes ≤ 64) on.text f.short;
      are_bytes = subst (λ (bytes : List ℕ). All (λ byte. byte < 256) bytes) on.text f.are_bytes;
    }

pub text_is_shown : TextIsShown
text_is_shown s t vs c r ok e all enough =
    let short = (one_short s t ok e).short in
    let is = service_steady s ok vs all (omega arith) c r in
    let q = is.0 in
    ap text_shown is.1
    ∙ text_is_up_to_return t.bytes (own_after vs c q) short
    (place_comes s t ok e 0 (omega arith) vs all c q enough).long
    (λ p within few. (place_comes s t ok e p (omega arith) vs all c q enough).at)
