-- What a byte list will find depends on its open part alone.
use Rattle.std.proofs.Common.{◌≡◌, ◌≢◌, ◌<◌, ◌≤◌, ◌+◌, ◌==◌, ◌&&◌, ◌⊎◌, ℕ, Bool, true, false, not, cond, List, [], ◌∷◌}
use Rattle.std.proofs.Common.{◌++◌, refl, ◌∙◌, ap, sym, length, arith, append_assoc, length-append, Option, Some, None}
use Rattle.std.proofs.Common.{Err, inl, inr}
use Rattle.std.specs.Prelude.{nat_le, nat_lt}
use Rattle.std.specs.List.{list_any}
use Rattle.std.specs.Option.{option_map}
use Rattle.std.proofs.lemmas.Bool.{cases_eq, cases_Bool, lt-ltb, le-leb, lt-leb, leb-true, ltb-true, eqb-true}
use Rattle.std.proofs.lemmas.Bool.{eqb-false, eq-eqb, ne_eqb, or_parts, or_cases, or_left, and_parts, and_right}
use Rattle.std.proofs.lemmas.Bool.{and_from}
use Rattle.std.proofs.lemmas.List.{append-nil, append_cancel_left}
use Rattle.uecp_frame.specs.declared.fault.FrameFault.{FrameFault}
use Rattle.uecp_frame.specs.declared.fault.FrameFault.TheVariants.{Unended, BadStuffing, TooLong}
use Rattle.uecp_frame.specs.Stuffing.{stuffed, unstuffed, Reading, after, IsNoCode, is_delimiter}
use Rattle.uecp_frame.specs.Segment.{judged, is_read, is_too_long, finding}
use Rattle.uecp_frame.specs.Findings.{Finding, OpenPart, Closed, Doomed, Part, has_two, progress, before_delimiter}
use Rattle.uecp_frame.specs.Findings.{from_delimiter, found_at, segment_found, found, open_bytes, open_from, open_part}
use Rattle.uecp_frame.specs.Findings.{OneFuture, OneOpenPart}
use Rattle.uecp_frame.specs.Beyond.{resumed, closing, closing_at, prolonged, found_beyond, open_beyond}
use Rattle.uecp_frame.proofs.Reading.{unstuffed-stuck, reading_of_cons, judged_more}
use Rattle.uecp_frame.proofs.Resumed.{unstuffed-append, rest_is_no_code, no_code_stays, has_two-append}
use Rattle.uecp_frame.proofs.Delimiters.{HasNone, from_delimiter-append, before_delimiter-append, segment_found-none}
use Rattle.uecp_frame.proofs.Delimiters.{segment_found-more, open_bytes-later, open_bytes-here, open_bytes-other}
use Rattle.uecp_frame.proofs.Delimiters.{open_bytes-nil, open_bytes-none, open_bytes-append_one, open_bytes-append_none}

-- ---- the three kinds of progress
abbrev pub is_stuck : Reading → Bool
is_stuck y = has_two y.rest && nat_le (length y.plain) 260

pub progress-stuck : (y : Reading) → is_stuck y ≡ true
    → progress y ≡ Doomed (BadStuffing (1 + length (stuffed y.plain)))
unfolding progress
progress-stuck y h = rw h

pub progress-long : (y : Reading) → is_stuck y ≡ false → is_too_long y ≡ true → progress y ≡ Doomed TooLong
unfolding progress
progress-long y h k = rw (h, k)

pub progress-part : (y : Reading) → is_stuck y ≡ false → is_too_long y ≡ false → progress y ≡ Part y
unfolding progress
progress-part y h k = rw (h, k)

two_is_left : (r : List ℕ) → has_two r ≡ true → is_read r ≡ false
two_is_left [] h = cc
two_is_left (b ∷ []) h = refl
two_is_left (b ∷ c ∷ r) h = refl

judged-bad : (p r : List ℕ) → is_read r ≡ false → length p ≤ 260
    → judged (record { plain = p; rest = r }) ≡ Err (BadStuffing (1 + length (stuffed p)))
unfolding judged
judged-bad p r left small = rw (left, le-leb (length p) 260 small)

judged-long : (p r : List ℕ) → 261 < length p → judged (record { plain = p; rest = r }) ≡ Err TooLong
unfolding judged
judged-long p r long =
    let above = lt-leb (length p) 260 (omega arith) in
    let far = lt-ltb 261 (length p) long in
    rw (above, far) (rw (and_right (not (is_read r)) false refl))

pub long_is_not_stuck : (y : Reading) → 261 ≤ length y.plain → is_stuck y ≡ false
long_is_not_stuck y h = and_right (has_two y.rest) (nat_le (length y.plain) 260)
    (lt-leb (length y.plain) 260 (omega arith))

-- a doomed segment has its fault however it goes on
pub record IsDoomed (y : Reading) (fault : FrameFault) : Type 0 where
  pub now : progress y ≡ Doomed fault
  pub at_end : (z : List ℕ) → judged (resumed y z) ≡ Err fault
  pub further : (z : List ℕ) → progress (resumed y z) ≡ Doomed fault

pub stuck_is_doomed : (y : Reading) → IsNoCode y.rest → is_stuck y ≡ true
    → IsDoomed y (BadStuffing (1 + length (stuffed y.plain)))
stuck_is_doomed y no_code h =
    let two = (and_parts (has_two y.rest) (nat_le (length y.plain) 260) h).0 in
    let small = leb-true (length y.plain) 260 (and_parts (has_two y.rest) (nat_le (length y.plain) 260) h).1 in
    let same : (z : List ℕ) → resumed y z ≡ record { plain = y.plain; rest = y.rest ++ z } =
    λ z. ap (after y.plain) (unstuffed-stuck (y.rest ++ z) (no_code_stays y.rest z no_code two))
    ∙ ap (λ p. record { plain = p; rest = y.rest ++ z }) (append-nil y.plain) in
    record {
      now = progress-stuck y h;
      at_end = λ z. ap judged (same z) ∙ judged-bad y.plain (y.rest ++ z)
          (two_is_left (y.rest ++ z) (has_two-append y.rest z two)) small;
      further = λ z. ap progress (same z) ∙ progress-stuck (record { plain = y.plain; rest = y.rest ++ z })
          (and_from (has_two (y.rest ++ z)) (nat_le (length y.plain) 260) (has_two-append y.rest z two)
          (le-leb (length y.plain) 260 small));
    }

more_of_left : (r z : List ℕ) → is_read r ≡ false → unstuffed (r ++ z) ≡ record { plain = []; rest = [] } → ⊥
more_of_left [] z left e = absurd (cc)
more_of_left (b ∷ r) z left e = reading_of_cons b (r ++ z) e

longer_is_long : (p : List ℕ) (w : Reading) → 261 < length p → is_too_long (after p w) ≡ true
longer_is_long p w h =
    or_left (nat_lt 261 (length (p ++ w.plain))) (not (is_read w.rest) && (length (p ++ w.plain) == 261))
    (lt-ltb 261 (length (p ++ w.plain)) (omega (arith, length-append p w.plain)))

-- 261 plain bytes, and more that is read or left
pub fuller_is_long : (p u r : List ℕ) → length p ≡ 261 → (u ≡ [] → r ≡ [] → ⊥)
    → is_too_long (record { plain = p ++ u; rest = r }) ≡ true
fuller_is_long p [] [] full more = absurd (more refl refl)
fuller_is_long p [] (b ∷ r) full more = rw (append-nil p, full)
fuller_is_long p (b ∷ u) r full more =
    or_left (nat_lt 261 (length (p ++ b ∷ u))) (not (is_read r) && (length (p ++ b ∷ u) == 261))
    (lt-ltb 261 (length (p ++ b ∷ u)) (omega (arith, length-append p (b ∷ u))))

pub nothing_both : (w : Reading) → (w ≡ record { plain = []; rest = [] } → ⊥) → w.plain ≡ [] → w.rest ≡ [] → ⊥
nothing_both w more e f = more (ap (λ a. record { plain = a; rest = w.rest }) e
    ∙ ap (λ b. record { plain = []; rest = b }) f)

not_left : (b : Bool) → not b ≡ true → b ≡ false
not_left true h = cc
not_left false h = refl

pub long_is_doomed : (y : Reading) → is_stuck y ≡ false → is_too_long y ≡ true → IsDoomed y TooLong
long_is_doomed y h k =
    elim (or_cases (nat_lt 261 (length y.plain)) (not (is_read y.rest) && (length y.plain == 261)) k) [
      | inl t ↦
          (let far = ltb-true 261 (length y.plain) t in
          record {
            now = progress-long y h k;
            at_end = λ z. judged-long (y.plain ++ (unstuffed (y.rest ++ z)).plain) (unstuffed (y.rest ++ z)).rest
                (omega (arith, length-append y.plain (unstuffed (y.rest ++ z)).plain));
            further = λ z. progress-long (resumed y z)
                (long_is_not_stuck (resumed y z) (omega (arith, length-append y.plain (unstuffed (y.rest ++ z)).plain)))
                (longer_is_long y.plain (unstuffed (y.rest ++ z)) far);
          })
      | inr t ↦
          (let parts = and_parts (not (is_read y.rest)) (length y.plain == 261) t in
          let full = eqb-true (length y.plain) 261 parts.1 in
          let left = not_left (is_read y.rest) parts.0 in
          record {
            now = progress-long y h k;
            at_end = λ z. judged_more y.plain (unstuffed (y.rest ++ z)) full (more_of_left y.rest z left);
            further = λ z. progress-long (resumed y z)
                (long_is_not_stuck (resumed y z) (omega (arith, length-append y.plain (unstuffed (y.rest ++ z)).plain)))
                (fuller_is_long y.plain (unstuffed (y.rest ++ z)).plain (unstuffed (y.rest ++ z)).rest full
                (nothing_both (unstuffed (y.rest ++ z)) (more_of_left y.rest z left)));
          })
    ]

pub progress_cases : (y : Reading) → IsNoCode y.rest → ((fault : FrameFault) × IsDoomed y fault) ⊎ (progress y ≡ Part y)
progress_cases y no_code =
    elim (cases_Bool (is_stuck y)) [
      | inl t ↦ inl (BadStuffing (1 + length (stuffed y.plain)), stuck_is_doomed y no_code t)
      | inr f ↦ elim (cases_Bool (is_too_long y)) [
        | inl long ↦ inl (TooLong, long_is_doomed y f long)
        | inr short ↦ inr (progress-part y f short)
      ]
    ]

-- ---- what is found when y follows, by the open part
pub closing_is : (x z : List ℕ) (d : ℕ) → closing (progress (unstuffed x)) z d ≡ finding (x ++ z) d ∷ []
unfolding finding
closing_is x z d =
    elim (progress_cases (unstuffed x) (rest_is_no_code x)) [
      | inl doomed ↦ ap (λ o. closing o z d) doomed.1.now
          ∙ ap (λ f. cond (d == 255) f (Err Unended) ∷ [])
          (sym (doomed.1.at_end z) ∙ sym (ap judged (unstuffed-append x z)))
      | inr part ↦ ap (λ o. closing o z d) part ∙ ap (λ f. cond (d == 255) f (Err Unended) ∷ [])
          (sym (ap judged (unstuffed-append x z)))
    ]

abbrev pub ending : OpenPart → List ℕ → List Finding
ending o y = closing_at o (before_delimiter y) (from_delimiter y)

found_at_is : (x z rest : List ℕ) → found_at (x ++ z) rest ≡ closing_at (progress (unstuffed x)) z rest
found_at_is x z [] = refl
found_at_is x z (d ∷ more) = sym (closing_is x z d)

segment_found_at : (x y : List ℕ) → HasNone x → segment_found (x ++ y) ≡ ending (progress (unstuffed x)) y
unfolding segment_found
segment_found_at x y h =
    ap (λ z. found_at z (from_delimiter (x ++ y))) (before_delimiter-append x y h)
    ∙ ap (found_at (x ++ before_delimiter y)) (from_delimiter-append x y h)
    ∙ found_at_is x (before_delimiter y) (from_delimiter y)

pub closed_ending : (y : List ℕ) → ending Closed y ≡ []
closed_ending y = at (from_delimiter y)
  where
    at : (rest : List ℕ) → closing_at Closed (before_delimiter y) rest ≡ []
    at [] = refl
    at (d ∷ more) = refl

abbrev pub future : OpenPart → List ℕ → List Finding
future o y = ending o y ++ found y

pub beyond_is : (o : OpenPart) (y : List ℕ) → found_beyond o y ≡ future o y
unfolding found_beyond
beyond_is o y = refl

pub open_beyond-one : (o : OpenPart) (y : List ℕ) → list_any is_delimiter y ≡ true → open_beyond o y ≡ open_part y
unfolding open_beyond
open_beyond-one o y h = rw h

pub open_beyond-none : (o : OpenPart) (y : List ℕ) → HasNone y → open_beyond o y ≡ prolonged o y
unfolding open_beyond
open_beyond-none o y h = rw h

pub found-nil : found [] ≡ []
unfolding found
found-nil = refl

pub found-start : (b : ℕ) (s : List ℕ) → b ≡ 254 → found (b ∷ s) ≡ segment_found s ++ found s
unfolding found
found-start b s e = rw (found, eq-eqb b 254 e)

pub found-other : (b : ℕ) (s : List ℕ) → b ≢ 254 → found (b ∷ s) ≡ found s
unfolding found
found-other b s e = rw (found, ne_eqb b 254 e)

pub found-none : (s : List ℕ) → HasNone s → found s ≡ []
found-none [] h = found-nil
found-none (b ∷ s) h =
    let p = or_parts (is_delimiter b) (list_any is_delimiter s) h in
    found-other b s (eqb-false b 254 (or_parts (b == 254) (b == 255) p.0).0) ∙ found-none s p.1

pub found-append : (s y : List ℕ) → found (s ++ y) ≡ found s ++ future (open_part s) y
found-append [] y = sym (ap (λ o. future (open_from o) y) open_bytes-nil ∙ ap (λ e. e ++ found y) (closed_ending y))
    ∙ ap (λ f. f ++ future (open_part []) y) (sym found-nil)
found-append (b ∷ s) y =
    elim (cases_Bool (list_any is_delimiter s)) [
      | inl t ↦ elim (cases_eq b 254) [
        | inl e ↦ found-start b (s ++ y) e
            ∙ ap (λ f. f ++ found (s ++ y)) (segment_found-more s y t)
            ∙ ap (λ f. segment_found s ++ f) (found-append s y)
            ∙ sym (append_assoc (segment_found s) (found s) (future (open_part s) y))
            ∙ ap (λ f. f ++ future (open_part s) y) (sym (found-start b s e))
            ∙ ap (λ o. found (b ∷ s) ++ future (open_from o) y) (sym (open_bytes-later b s t))
        | inr ne ↦ found-other b (s ++ y) ne ∙ found-append s y
            ∙ ap (λ f. f ++ future (open_part s) y) (sym (found-other b s ne))
            ∙ ap (λ o. found (b ∷ s) ++ future (open_from o) y) (sym (open_bytes-later b s t))
      ]
      | inr f ↦
          (let rest : found (s ++ y) ≡ found y =
          found-append s y ∙ ap (λ g. g ++ future (open_part s) y) (found-none s f)
          ∙ ap (λ o. future (open_from o) y) (open_bytes-none s f) ∙ ap (λ e. e ++ found y) (closed_ending y) in
          elim (cases_eq b 254) [
            | inl e ↦ found-start b (s ++ y) e
                ∙ ap (λ g. segment_found (s ++ y) ++ g) rest
                ∙ ap (λ g. g ++ found y) (segment_found_at s y f)
                ∙ ap (λ o. future (open_from o) y) (sym (open_bytes-here b s f e))
                ∙ ap (λ g. g ++ future (open_part (b ∷ s)) y) (sym
                (found-start b s e ∙ ap (λ g. g ++ found s) (segment_found-none s f) ∙ found-none s f))
            | inr ne ↦ found-other b (s ++ y) ne ∙ rest
                ∙ sym (ap (λ o. future (open_from o) y) (open_bytes-other b s f ne)
                ∙ ap (λ e. e ++ found y) (closed_ending y))
                ∙ ap (λ g. g ++ future (open_part (b ∷ s)) y) (sym (found-other b s ne ∙ found-none s f))
          ])
    ]

pub one_future_lem : OneFuture
one_future_lem s t x more same e =
    let known : future (open_part s) x ≡ more = append_cancel_left (found s) (future (open_part s) x) more
    (sym (found-append s x) ∙ e) in
    found-append t x ∙ ap (λ f. found t ++ f) (ap (λ o. future o x) (sym same) ∙ known)

-- ---- the open part when y follows
pub prolonged-nil : (o : OpenPart) → prolonged o [] ≡ o
prolonged-nil Closed = refl
prolonged-nil (Doomed fault) = refl
prolonged-nil (Part y) = refl

-- a reading that stops where no code stands goes on as its progress does
pub progress-resumed : (y : Reading) → IsNoCode y.rest → (b : ℕ) (z : List ℕ)
    → progress (resumed y (b ∷ z)) ≡ prolonged (progress y) (b ∷ z)
progress-resumed y no_code b z =
    elim (progress_cases y no_code) [
      | inl doomed ↦ doomed.1.further (b ∷ z) ∙ sym (ap (λ o. prolonged o (b ∷ z)) doomed.1.now)
      | inr part ↦ sym (ap (λ o. prolonged o (b ∷ z)) part)
    ]

pub progress-append : (x y : List ℕ) → progress (unstuffed (x ++ y)) ≡ prolonged (progress (unstuffed x)) y
progress-append x [] = ap (λ z. progress (unstuffed z)) (append-nil x) ∙ sym (prolonged-nil (progress (unstuffed x)))
progress-append x (b ∷ y) = ap progress (unstuffed-append x (b ∷ y))
    ∙ progress-resumed (unstuffed x) (rest_is_no_code x) b y

open_from-append : (o : Option (List ℕ)) (y : List ℕ)
    → open_from (option_map (λ x. x ++ y) o) ≡ prolonged (open_from o) y
open_from-append None y = refl
open_from-append (Some x) y = progress-append x y

pub open_part-append : (s y : List ℕ) → HasNone y → open_part (s ++ y) ≡ prolonged (open_part s) y
open_part-append s y h = ap open_from (open_bytes-append_none s y h) ∙ open_from-append (open_bytes s) y

pub one_open_part_lem : OneOpenPart
one_open_part_lem s t y same =
    elim (cases_Bool (list_any is_delimiter y)) [
      | inl one ↦ ap open_from (open_bytes-append_one s y one) ∙ sym (ap open_from (open_bytes-append_one t y one))
      | inr none ↦ open_part-append s y none ∙ ap (λ o. prolonged o y) same ∙ sym (open_part-append t y none)
    ]
