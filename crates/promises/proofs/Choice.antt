-- Which text goes out.
use Rattle.std.proofs.Common.{◌≡◌, ◌≢◌, ◌⊎◌, ℕ, ◌+◌, ◌<◌, ◌≤◌, Bool, true, false, not, List, [], ◌∷◌, length, Option}
use Rattle.std.proofs.Common.{Some, None, refl, ap, sym, ◌∙◌, subst, arith, ◌==◌, ◌&&◌, if◌then◌else◌, inl, inr, nat_lt}
use Rattle.std.specs.List.{All}
use Rattle.std.specs.Prelude.{slice_get, unwrap_or, bytes_eq, is_some, ◌||◌}
use Rattle.std.specs.Option.{option_map_or}
use Rattle.std.proofs.lemmas.Bool.{cases_lt, cases_eq, cases_Bool, lt-ltb, le-ltb}
use Rattle.std.proofs.lemmas.Option.{slice_get_past, slice_get_within, get_or_from_slice_get}
use Rattle.std.proofs.lemmas.Slice.Eq.{bytes_eq-Decides}
use Rattle.rds_store.specs.Value.{StoredText}
use Rattle.carousel.specs.Carousel.{Carousel, blanks_left}
use Rattle.carousel.specs.Texts.{no_text, segment_count, begun, begun_at, next_place, pass_over, gone_on, chosen}
use Rattle.carousel.specs.Texts.{blanked, text_next}
use Rattle.carousel.specs.Next.{turn}
use Rattle.promises.specs.OnAir.{IsText}

pub by_if : (P : Carousel → Type 0) (b : Bool) (x y : Carousel) → P x → P y → P (if b then x else y)
by_if P true x y px py = px
by_if P false x y px py = py

-- ---- What is so of any choice.
-- what each text that begins brings, and what stays of a carousel whose text goes on
pub any_choice : (P : Carousel → Type 0) (texts : List StoredText) (c : Carousel)
    → ((place : ℕ) → P (begun_at texts place c))
    → ((t : StoredText) → slice_get texts c.place ≡ Some t → c.text ≡ t.bytes → c.text_segment < segment_count t.bytes
    → P c)
    → ((t : StoredText) → slice_get texts c.place ≡ Some t → c.text ≡ t.bytes → (passes : ℕ)
    → P (record c { passes = passes; text_segment = 0 }))
    → P (chosen texts c)
any_choice P texts c begins goes_on again = by (slice_get texts c.place) refl
  where
    by : (o : Option StoredText) → slice_get texts c.place ≡ o
        → P (option_map_or (λ t. if bytes_eq c.text t.bytes then gone_on texts t c else begun_at texts 0 c) o
        (begun_at texts 0 c))
    by None e = begins 0
    by (Some t) e = elim (cases_Bool (bytes_eq c.text t.bytes)) [
      | inl equal ↦
          let is = (bytes_eq-Decides c.text t.bytes).0 equal in
          subst (λ b. P (if b then gone_on texts t c else begun_at texts 0 c)) (sym equal)
          (elim (cases_lt c.text_segment (segment_count t.bytes)) [
            | inl within ↦ subst (λ b. P (if b then c else pass_over texts t c))
                (sym (lt-ltb c.text_segment (segment_count t.bytes) within)) (goes_on t e is within)
            | inr over ↦ subst (λ b. P (if b then c else pass_over texts t c))
                (sym (le-ltb c.text_segment (segment_count t.bytes) over))
                (by_if P (t.transmissions == 0) (record c { passes = 0; text_segment = 0 })
                (if nat_lt (c.passes + 1) t.transmissions then record c {
                  passes = c.passes + 1;
                  text_segment = 0;
                } else begun_at texts (next_place texts c.place) c)
                (again t e is 0)
                (by_if P (nat_lt (c.passes + 1) t.transmissions) (record c { passes = c.passes + 1; text_segment = 0 })
                (begun_at texts (next_place texts c.place) c)
                (again t e is (c.passes + 1)) (begins (next_place texts c.place))))
          ])
      | inr unlike ↦ subst (λ b. P (if b then gone_on texts t c else begun_at texts 0 c)) (sym unlike) (begins 0)
    ]

-- ---- What is so of the text that is next: an empty one of a start, or the one that is chosen.
pub is_blanked : (texts : List StoredText) (c : Carousel) → 0 < blanks_left c → text_next texts c ≡ blanked c
is_blanked texts c some = ap (λ b. if b then blanked c else chosen texts c) (lt-ltb 0 (blanks_left c) some)

pub is_chosen : (texts : List StoredText) (c : Carousel) → blanks_left c ≡ 0 → text_next texts c ≡ chosen texts c
is_chosen texts c none = ap (λ n. if nat_lt 0 n then blanked c else chosen texts c) none

pub any_next : (P : Carousel → Type 0) (texts : List StoredText) (c : Carousel) → (0 < blanks_left c → P (blanked c))
    → (blanks_left c ≡ 0 → P (chosen texts c)) → P (text_next texts c)
any_next P texts c blank choice = elim (cases_lt 0 (blanks_left c)) [
  | inl some ↦ subst P (sym (is_blanked texts c some)) (blank some)
  | inr none ↦ let zero : blanks_left c ≡ 0 = omega arith in subst P (sym (is_chosen texts c zero)) (choice zero)
]

-- the name is left alone
pub record KeepsName (c d : Carousel) : Type 0 where
  pub name : d.name ≡ c.name
  pub name_segment : d.name_segment ≡ c.name_segment

chosen_keeps_name : (texts : List StoredText) (c : Carousel) → KeepsName c (chosen texts c)
chosen_keeps_name texts c =
    any_choice (KeepsName c) texts c (λ place. record { name = refl; name_segment = refl })
    (λ t e is within. record { name = refl; name_segment = refl })
    (λ t e is passes. record { name = refl; name_segment = refl })

pub next_keeps_name : (texts : List StoredText) (c : Carousel) → KeepsName c (text_next texts c)
next_keeps_name texts c =
    any_next (KeepsName c) texts c (λ some. record { name = refl; name_segment = refl })
    (λ none. chosen_keeps_name texts c)

-- the segment is one of the text, which is of bytes
pub record IsFine (c : Carousel) : Type 0 where
  pub within : c.text_segment < segment_count c.text
  pub short : length c.text ≤ 64
  pub are_bytes : All (λ byte. byte < 256) c.text

pub fine_small : (c : Carousel) → IsFine c → c.text_segment < 16
fine_small c fine = let h = fine.within in omega arith

begun_fine : (place : ℕ) (t : StoredText) (c : Carousel) → IsText t → IsFine (begun place t c)
begun_fine place t c ok = record { within = omega arith; short = ok.short; are_bytes = ok.are_bytes }

pub text_fine : (texts : List StoredText) (place : ℕ) → All IsText texts
    → IsText (unwrap_or (slice_get texts place) no_text)
text_fine texts place all = by (slice_get texts place) refl
  where
    by : (o : Option StoredText) → slice_get texts place ≡ o → IsText (unwrap_or o no_text)
    by None e = record { short = omega arith; are_bytes = λ k d h. absurd (omega arith) }
    by (Some t) e = subst IsText (get_or_from_slice_get texts place t t e)
        (all place t (slice_get_within texts place t e))

chosen_fine : (texts : List StoredText) (c : Carousel) → All IsText texts → IsFine (chosen texts c)
chosen_fine texts c all =
    any_choice IsFine texts c
    (λ place. begun_fine place (unwrap_or (slice_get texts place) no_text) c (text_fine texts place all))
    (λ t e is within.
    let ok = subst (λ (o : Option StoredText). IsText (unwrap_or o no_text)) e (text_fine texts c.place all) in
    record {
      within = subst (λ (bytes : List ℕ). c.text_segment < segment_count bytes) (sym is) within;
      short = subst (λ (bytes : List ℕ). length bytes ≤ 64) (sym is) ok.short;
      are_bytes = subst (All (λ byte. byte < 256)) (sym is) ok.are_bytes;
    })
    (λ t e is passes.
    let ok = subst (λ (o : Option StoredText). IsText (unwrap_or o no_text)) e (text_fine texts c.place all) in
    record {
      within = omega arith;
      short = subst (λ (bytes : List ℕ). length bytes ≤ 64) (sym is) ok.short;
      are_bytes = subst (All (λ byte. byte < 256)) (sym is) ok.are_bytes;
    })

pub next_fine : (texts : List StoredText) (c : Carousel) → All IsText texts → IsFine (text_next texts c)
next_fine texts c all =
    any_next IsFine texts c
    (λ some. record { within = omega arith; short = omega arith; are_bytes = λ k d h. absurd (omega arith) })
    (λ none. chosen_fine texts c all)

-- nothing of a start is left then, where nothing was
pub stays_started : (texts : List StoredText) (c : Carousel) → blanks_left c ≡ 0 → blanks_left (chosen texts c) ≡ 0
stays_started texts c none =
    any_choice (λ d. blanks_left d ≡ 0) texts c
    (λ place. by (bytes_eq c.text (unwrap_or (slice_get texts place) no_text).bytes)) (λ t e is within. none)
    (λ t e is passes. none)
  where
    by : (b : Bool) → unwrap_or (if b then c.blanks else None) 0 ≡ 0
    by true = none
    by false = refl

-- ---- Where there is one text.
pub record IsOn (t : StoredText) (c : Carousel) : Type 0 where
  pub text : c.text ≡ t.bytes
  pub place : c.place ≡ 0

abbrev pub IsOff : StoredText → Carousel → Type 0
IsOff t c = (bytes_eq c.text t.bytes ≡ false) ⊎ (c.place ≢ 0)

pub on_or_off : (t : StoredText) (c : Carousel) → IsOn t c ⊎ IsOff t c
on_or_off t c = elim (cases_Bool (bytes_eq c.text t.bytes)) [
  | inl equal ↦ elim (cases_eq c.place 0) [
    | inl first ↦ inl (record { text = (bytes_eq-Decides c.text t.bytes).0 equal; place = first })
    | inr later ↦ inr (inr later)
  ]
  | inr unlike ↦ inr (inl unlike)
]

-- one that is not on the air begins
pub off_begins : (t : StoredText) (c : Carousel) → IsOff t c → chosen (t ∷ []) c ≡ begun 0 t c
off_begins t c off =
    let texts = t ∷ [] in
    let step = λ (o : Option StoredText). option_map_or
    (λ u. if bytes_eq c.text u.bytes then gone_on texts u c else begun_at texts 0 c) o (begun_at texts 0 c) in
    elim off [
      | inl unlike ↦ elim (cases_eq c.place 0) [
        | inl first ↦ ap (λ (n : ℕ). step (slice_get texts n)) first
            ∙ ap (λ b. if b then gone_on texts t c else begun_at texts 0 c) unlike
        | inr later ↦ ap step (slice_get_past texts c.place (omega arith))
      ]
      | inr later ↦ ap step (slice_get_past texts c.place (omega arith))
    ]

-- one that is on the air goes on, round and round, under its flag
pub record GoesOn (t : StoredText) (c d : Carousel) : Type 0 where
  pub text : d.text ≡ t.bytes
  pub place : d.place ≡ 0
  pub flag : d.flag ≡ c.flag
  pub segment : d.text_segment ≡ turn (segment_count t.bytes) c.text_segment

flag_stays : (toggle b flag : Bool) → b ≡ true → (if toggle && not b then not flag else flag) ≡ flag
flag_stays true b flag e = ap (λ x. if true && not x then not flag else flag) e
flag_stays false b flag e = refl

pub on_goes_on : (t : StoredText) (c : Carousel) → IsOn t c → GoesOn t c (chosen (t ∷ []) c)
on_goes_on t c on =
    let texts = t ∷ [] in
    let n = segment_count t.bytes in
    let equal = (bytes_eq-Decides c.text t.bytes).1 on.text in
    let step = λ (o : Option StoredText). option_map_or
    (λ u. if bytes_eq c.text u.bytes then gone_on texts u c else begun_at texts 0 c) o (begun_at texts 0 c) in
    let is : chosen texts c ≡ gone_on texts t c =
    ap (λ (k : ℕ). step (slice_get texts k)) on.place
    ∙ ap (λ b. if b then gone_on texts t c else begun_at texts 0 c) equal in
    subst (GoesOn t c) (sym is) (elim (cases_lt c.text_segment n) [
      | inl within ↦ subst (λ b. GoesOn t c (if b then c else pass_over texts t c))
          (sym (lt-ltb c.text_segment n within))
          (record {
            text = on.text;
            place = on.place;
            flag = refl;
            segment = sym (ap (λ b. if b then c.text_segment else 0) (lt-ltb c.text_segment n within));
          })
      | inr over ↦
          let none : 0 ≡ turn n c.text_segment =
          sym (ap (λ b. if b then c.text_segment else 0) (le-ltb c.text_segment n over)) in
          let first : next_place texts c.place ≡ 0 = ap (λ b. if b then c.place + 1 else 0)
          (le-ltb (c.place + 1) 1 (omega arith)) in
          subst (λ b. GoesOn t c (if b then c else pass_over texts t c)) (sym (le-ltb c.text_segment n over))
          (by_if (GoesOn t c) (t.transmissions == 0) (record c { passes = 0; text_segment = 0 })
          (if nat_lt (c.passes + 1) t.transmissions then record c {
            passes = c.passes + 1;
            text_segment = 0;
          } else begun_at texts (next_place texts c.place) c)
          (record { text = on.text; place = on.place; flag = refl; segment = none })
          (by_if (GoesOn t c) (nat_lt (c.passes + 1) t.transmissions)
          (record c { passes = c.passes + 1; text_segment = 0 }) (begun_at texts (next_place texts c.place) c)
          (record { text = on.text; place = on.place; flag = refl; segment = none })
          (subst (λ (k : ℕ). GoesOn t c (begun_at texts k c)) (sym first)
          (record {
            text = refl;
            place = refl;
            flag = flag_stays (t.toggle || is_some c.blanks) (bytes_eq c.text t.bytes) c.flag equal;
            segment = none;
          }))))
    ])
