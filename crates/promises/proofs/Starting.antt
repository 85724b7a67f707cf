-- Nothing false is shown, and behind a start an empty text at most.
use Rattle.std.proofs.Common.{◌≡◌, ◌⊎◌, ℕ, ◌<◌, true, false, not, List, [], ◌∷◌, Option, Some, None}
use Rattle.std.proofs.Common.{refl, ap, sym, ◌∙◌, subst, arith, inl, inr, if◌then◌else◌, ◌&&◌}
use Rattle.std.specs.Prelude.{is_some, unwrap_or}
use Rattle.std.specs.List.{AllByRecursion}
use Rattle.std.proofs.lemmas.Bool.{cases_lt}
use Rattle.rds_groups.specs.Groups.{blocks}
use Rattle.rds_store.specs.Value.{Store, ServiceData, StoredText}
use Rattle.rds_groups.specs.declared.heard.HeardGroup.{HeardGroup}
use Rattle.rds_groups.specs.Heard.{came}
use Rattle.rds_groups.specs.Shown.{Receiver, hears_own, is_same, nothing, switched_on}
use Rattle.rds_groups.specs.Damage.{GroupDamage, IsGroupDamage, damaged}
use Rattle.rds_groups.specs.ReceiverLaws.{IsRightOrMissing}
use Rattle.carousel.specs.Carousel.{Carousel, blanks_left}
use Rattle.carousel.specs.Service.{main_service}
use Rattle.carousel.specs.Texts.{no_text, line_up}
use Rattle.carousel.specs.Next.{sent, name_next, text_group, text_sent, next_group}
use Rattle.promises.specs.OnAir.{IsService, Has, HasFlags, Moment, after_damage, pi_of, IsElsewhere}
use Rattle.promises.specs.AirLaws.{ShowsNothingFalse, ShowsNothingElse, NothingFalseIsShown}
use Rattle.promises.proofs.Words.{tuned_to, name_told, text_told}
use Rattle.promises.proofs.AirHearing.{MayHold}
use Rattle.promises.proofs.Choice.{is_blanked, is_chosen}
use Rattle.promises.proofs.Steps.{next_is, part_step, on_air, fine}
use Rattle.promises.proofs.TextRuns.{one_is_on, one_goes_on, one_started, one_short}
use Rattle.promises.proofs.NamesInOrder.{kept_coming}
use Rattle.promises.proofs.Mixing.{stays_or_turns}
use Rattle.promises.proofs.Showing.{HeardOnly, text_may, left_or_nothing, by_name, step, still_started, shows_only}
use Rattle.promises.proofs.Showing.{nothing_heard}
use Rattle.promises.proofs.Tuning.{store_has}
use Rattle.promises.proofs.Retuning.{Kept, kept, elsewhere_before}

-- ---- How far a start has come.
-- an empty text is on the air under flag 0, and the first text is still to come
record EmptyIsOn (c : Carousel) : Type 0 where
  first : is_some c.blanks ≡ true
  empty : c.text ≡ []
  flag : c.flag ≡ false

-- the text is on the air under flag 1
record TextIsOn (t : StoredText) (c : Carousel) : Type 0 where
  started : blanks_left c ≡ 0
  text : c.text ≡ t.bytes
  place : c.place ≡ 0
  flag : c.flag ≡ true

data Stage (t : StoredText) (c : Carousel) : Type 0 where
  Begins : 0 < blanks_left c → Stage t c
  Empty : EmptyIsOn c → Stage t c
  Text : TextIsOn t c → Stage t c

blank_is_on : (s : ServiceData) (c : Carousel) → 0 < blanks_left c → EmptyIsOn (on_air s c)
blank_is_on s c some =
    subst EmptyIsOn (sym (is_blanked (line_up s.texts) c some)) (record { first = refl; empty = refl; flag = refl })

begun_is_on : (s : ServiceData) (t : StoredText) → line_up s.texts ≡ t ∷ [] → (c : Carousel) → blanks_left c ≡ 0
    → (on_air s c).flag ≡ true → TextIsOn t (on_air s c)
begun_is_on s t e c none flag =
    let on = one_is_on s t e c none in
    record { started = one_started s t e c none; text = on.text; place = on.place; flag = flag }

next_is_on : (s : ServiceData) (t : StoredText) → line_up s.texts ≡ t ∷ [] → (c : Carousel) → Stage t c
    → EmptyIsOn (on_air s c) ⊎ TextIsOn t (on_air s c)
next_is_on s t e c (Begins some) = inl (blank_is_on s c some)
next_is_on s t e c (Empty is) = elim (cases_lt 0 (blanks_left c)) [
  | inl some ↦ inl (blank_is_on s c some)
  | inr over ↦
      let none : blanks_left c ≡ 0 = omega arith in
      let same = is_chosen (line_up s.texts) c none in
      elim (stays_or_turns s c (inr is.first)) [
        | inl stays ↦ inl (subst EmptyIsOn (sym same) (record {
          first = ap is_some stays.blanks ∙ is.first;
          empty = stays.text ∙ is.empty;
          flag = stays.flag ∙ is.flag;
        }))
        | inr turned ↦
            inr (begun_is_on s t e c none (ap (λ (d : Carousel). d.flag) same ∙ turned ∙ ap not is.flag))
      ]
]
next_is_on s t e c (Text is) =
    let goes = one_goes_on s t e c is.started (record { text = is.text; place = is.place }) in
    inr (begun_is_on s t e c is.started (goes.flag ∙ is.flag))

stage_as : (t : StoredText) (c d : Carousel) → d.blanks ≡ c.blanks → d.text ≡ c.text → d.flag ≡ c.flag
    → d.place ≡ c.place → Stage t c → Stage t d
stage_as t c d blanks text flag place (Begins some) =
    Begins (subst (λ n. 0 < n) (sym (ap (λ (o : Option ℕ). unwrap_or o 0) blanks)) some)
stage_as t c d blanks text flag place (Empty is) =
    Empty (record { first = ap is_some blanks ∙ is.first; empty = text ∙ is.empty; flag = flag ∙ is.flag })
stage_as t c d blanks text flag place (Text is) =
    Text (record {
      started = ap (λ (o : Option ℕ). unwrap_or o 0) blanks ∙ is.started;
      text = text ∙ is.text;
      place = place ∙ is.place;
      flag = flag ∙ is.flag;
    })

stage_of : (t : StoredText) (c : Carousel) → EmptyIsOn c ⊎ TextIsOn t c → Stage t c
stage_of t c (inl is) = Empty is
stage_of t c (inr is) = Text is

next_stage : (s : ServiceData) (t : StoredText) → line_up s.texts ≡ t ∷ [] → (v : Store) → Has s v → (c : Carousel)
    → Stage t c → Stage t (next_group v c).1
next_stage s t e v has c stage =
    let u = main_service v in
    let one : line_up u.texts ≡ t ∷ [] = ap (λ (u : ServiceData). line_up u.texts) has.same ∙ e in
    next_is v c (λ sent. Stage t sent.1)
    (λ h. stage_as t c _ refl refl refl refl stage)
    (λ h. stage_as t (on_air u c) _ refl refl refl refl (stage_of t (on_air u c) (next_is_on u t one c stage)))
    (λ h g gs w. stage_as t c _ refl refl refl refl stage)

-- ---- What a receiver has heard of it.
-- nothing but empty texts
record HeardEmpty (s : ServiceData) (c : Carousel) (r : Receiver) : Type 0 where
  only : HeardOnly s no_text c r
  flag : r.flag ≡ false

abbrev HeardStart : ServiceData → StoredText → Carousel → Receiver → Type 0
HeardStart s t c r = HeardEmpty s c r ⊎ ((blanks_left c ≡ 0) × HeardOnly s t c r)

named_flag : (s : ServiceData) (i : ℕ) (block4 : Option ℕ) (q : Receiver) → (name_told s i block4 q).flag ≡ q.flag
named_flag s i None q = refl
named_flag s i (Some word) q = refl

text_heard_only : (s : ServiceData) (t : StoredText) (c : Carousel) (block3 block4 : Option ℕ) (q : Receiver)
    → HeardOnly s no_text c q → ((p : ℕ) → MayHold ((text_told s (on_air s c) block3 block4 q).text p) (sent t.bytes p))
    → HeardOnly s t (text_sent s (on_air s c)).1 (text_told s (on_air s c) block3 block4 q)
text_heard_only s t c block3 block4 q g text = record {
  pi = g.pi;
  tp = refl;
  pty = refl;
  ta = g.ta;
  music = g.music;
  long = refl;
  names = record { coming = kept_coming s c q.coming g.names.coming; shown = g.names.shown };
  text = text;
}

-- a group of the text: an empty one, or one under the other flag
text_in_start : (s : ServiceData) (t : StoredText) (c : Carousel) → IsService s → (block3 block4 : Option ℕ)
    → IsRightOrMissing (text_group s (on_air s c)).block3 block3
    → IsRightOrMissing (text_group s (on_air s c)).block4 block4 → (q : Receiver)
    → EmptyIsOn (on_air s c) ⊎ TextIsOn t (on_air s c) → HeardEmpty s c q
    → HeardStart s t (text_sent s (on_air s c)).1 (text_told s (on_air s c) block3 block4 q)
text_in_start s t c ok block3 block4 h3 h4 q (inl is) heard =
    let d = on_air s c in
    inl (record {
      only = text_heard_only s no_text c block3 block4 q heard.only
          (text_may s d [] block3 block4 q (fine s c ok).are_bytes is.empty h3 h4
          (left_or_nothing d.flag [] q heard.only.text));
      flag = is.flag;
    })
text_in_start s t c ok block3 block4 h3 h4 q (inr is) heard =
    let d = on_air s c in
    let other : is_same q.flag d.flag ≡ false = ap (λ b. is_same b d.flag) heard.flag ∙ ap not is.flag in
    inr (
      is.started,
      text_heard_only s t c block3 block4 q heard.only
          (text_may s d t.bytes block3 block4 q (fine s c ok).are_bytes is.text h3 h4
          (λ p. inl (ap (λ b. (if b && is_same q.is_short false then q.text else nothing) p) other))),
    )

start_step : (s : ServiceData) (t : StoredText) → IsService s → line_up s.texts ≡ t ∷ []
    → (v : Store) (d : GroupDamage) (c : Carousel) (r : Receiver) → Stage t c → Has s v → IsGroupDamage d
    → HeardEmpty s c r
    → HeardStart s t (next_group v c).1 (hears_own (came (damaged d (blocks (next_group v c).0))) r)
start_step s t ok e v d c r stage has damage heard =
    part_step s v d c r (HeardEmpty s c) (HeardStart s t) ok has damage heard
    (λ q g. record { only = identified_only q g.only; flag = g.flag })
    (λ f q g. inl (record { only = lost_only f q g.only; flag = g.flag }))
    (λ block4 h q g. inl (record {
      only = by_name s no_text c ok block4 h q g.only;
      flag = named_flag s (name_next s c) block4 q ∙ g.flag;
    }))
    (λ block3 block4 h3 h4 q g. text_in_start s t c ok block3 block4 h3 h4 q (next_is_on s t e c stage) g)
    (λ q g. inl (record { only = tuned_only q g.only; flag = g.flag }))
  where
    identified_only : (q : Receiver) → HeardOnly s no_text c q → HeardOnly s no_text c (record q { pi = Some s.pi })
    identified_only q g = record {
      pi = refl;
      tp = g.tp;
      pty = g.pty;
      ta = g.ta;
      music = g.music;
      long = g.long;
      text = g.text;
      names = record { coming = g.names.coming; shown = g.names.shown };
    }

    lost_only : (f : Carousel) (q : Receiver) → HeardOnly s no_text c q
        → HeardOnly s no_text f (record q { coming = [] })
    lost_only f q g = record {
      pi = g.pi;
      tp = g.tp;
      pty = g.pty;
      ta = g.ta;
      music = g.music;
      long = g.long;
      text = g.text;
      names = record { coming = inl refl; shown = g.names.shown };
    }

    tuned_only : (q : Receiver) → HeardOnly s no_text c q
        → HeardOnly s no_text (record c { is_other = false }) (tuned_to s q)
    tuned_only q g = record {
      pi = g.pi;
      tp = refl;
      pty = refl;
      ta = g.ta;
      music = g.music;
      long = g.long;
      text = g.text;
      names = record { coming = g.names.coming; shown = g.names.shown };
    }

-- ---- Runs.
-- a group that is missed, and one that is held
missed : (s : ServiceData) (t : StoredText) (c d : Carousel) (r : Receiver) → HeardOnly s t c r
    → HeardOnly s t d (record r { coming = [] })
missed s t c d r g = record {
  pi = g.pi;
  tp = g.tp;
  pty = g.pty;
  ta = g.ta;
  music = g.music;
  long = g.long;
  text = g.text;
  names = record { coming = inl refl; shown = g.names.shown };
}

holding : (s : ServiceData) (t : StoredText) (c : Carousel) (r : Receiver) (o : Option HeardGroup) → HeardOnly s t c r
    → HeardOnly s t c (record r { held = o })
holding s t c r o g = record {
  pi = g.pi;
  tp = g.tp;
  pty = g.pty;
  ta = g.ta;
  music = g.music;
  long = g.long;
  text = g.text;
  names = record { coming = g.names.coming; shown = g.names.shown };
}

abbrev IsOf : ServiceData → Moment → Type 0
IsOf s m = Has s m.store × IsGroupDamage m.damage

are_of : (s : ServiceData) (ms : List Moment) → AllByRecursion (λ m. Has s m.store) ms
    → AllByRecursion (λ m. IsGroupDamage m.damage) ms → AllByRecursion (IsOf s) ms
are_of s [] has damage = tt
are_of s (m ∷ ms) has damage = ((has.0, damage.0), are_of s ms has.1 damage.1)

all_elsewhere : (s : ServiceData) (ms : List Moment) (r : Receiver) → AllByRecursion (λ m. Has s m.store) ms
    → IsElsewhere s.pi r → AllByRecursion (λ m. IsElsewhere (pi_of m.store) r) ms
all_elsewhere s [] r has elsewhere = tt
all_elsewhere s (m ∷ ms) r has elsewhere = (
  subst (λ (u : ServiceData). IsElsewhere u.pi r) (sym has.0.same) elsewhere,
  all_elsewhere s ms r has.1 elsewhere,
)

module _ (s : ServiceData) (t : StoredText) (ok : IsService s) (e : line_up s.texts ≡ t ∷ []) where
  -- where nothing of a start is left
  text_kept : Kept (IsOf s) (λ c. blanks_left c ≡ 0) (HeardOnly s t) (ShowsNothingFalse s t)
  text_kept = record {
    store = λ m is. store_has s m.store ok is.0;
    damage = λ m is. is.1;
    moves = λ m c is none. still_started m.store c none;
    starts = λ c none. nothing_heard s t c;
    own = λ m c r is none good. step s t ok e m.store m.damage c r none is.0 is.1 good;
    misses = λ m c r is none good. missed s t c (next_group m.store c).1 r good;
    holds = λ c r o good. holding s t c r o good;
    shows = λ c r good. shows_only s t c r (one_short s t ok e).short good;
  }

  -- and where it is
  abbrev ShowsEither : Receiver → Type 0
  ShowsEither r = ShowsNothingFalse s t r ⊎ ShowsNothingFalse s no_text r

  own_step : (m : Moment) (c : Carousel) (r : Receiver) → IsOf s m → Stage t c → HeardStart s t c r
      → HeardStart s t (next_group m.store c).1
      (hears_own (came (damaged m.damage (blocks (next_group m.store c).0))) r)
  own_step m c r is stage (inl empty) = start_step s t ok e m.store m.damage c r stage is.0 is.1 empty
  own_step m c r is stage (inr good) = inr (
    still_started m.store c good.0,
    step s t ok e m.store m.damage c r good.0 is.0 is.1 good.1,
  )

  miss_step : (m : Moment) (c : Carousel) (r : Receiver) → HeardStart s t c r
      → HeardStart s t (next_group m.store c).1 (record r { coming = [] })
  miss_step m c r (inl empty) =
      inl (record { only = missed s no_text c (next_group m.store c).1 r empty.only; flag = empty.flag })
  miss_step m c r (inr good) =
      inr (still_started m.store c good.0, missed s t c (next_group m.store c).1 r good.1)

  hold_step : (c : Carousel) (r : Receiver) (o : Option HeardGroup) → HeardStart s t c r
      → HeardStart s t c (record r { held = o })
  hold_step c r o (inl empty) = inl (record { only = holding s no_text c r o empty.only; flag = empty.flag })
  hold_step c r o (inr good) = inr (good.0, holding s t c r o good.1)

  shows_either : (c : Carousel) (r : Receiver) → HeardStart s t c r → ShowsEither r
  shows_either c r (inl empty) = inr (shows_only s no_text c r (omega arith) empty.only)
  shows_either c r (inr good) = inl (shows_only s t c r (one_short s t ok e).short good.1)

  start_kept : Kept (IsOf s) (Stage t) (HeardStart s t) ShowsEither
  start_kept = record {
    store = λ m is. store_has s m.store ok is.0;
    damage = λ m is. is.1;
    moves = λ m c is stage. next_stage s t e m.store is.0 c stage;
    starts = λ c stage. inl (record { only = nothing_heard s no_text c; flag = refl });
    own = own_step;
    misses = λ m c r is stage good. miss_step m c r good;
    holds = hold_step;
    shows = shows_either;
  }

  either_or : (c : Carousel) (r : Receiver) → 0 < blanks_left c → ShowsEither r → ShowsNothingElse s t c r
  either_or c r some (inl shows) = inl shows
  either_or c r some (inr empty) = inr (some, empty)

  shown_new : (ms : List Moment) (c : Carousel) → AllByRecursion (IsOf s) ms
      → ShowsNothingElse s t c (after_damage ms c switched_on)
  shown_new ms c all = elim (cases_lt 0 (blanks_left c)) [
    | inl some ↦ either_or c (after_damage ms c switched_on) some
        (kept (IsOf s) (Stage t) (HeardStart s t) ShowsEither start_kept ms c switched_on all (Begins some)
        (inl (record { only = nothing_heard s no_text c; flag = refl })) tt)
    | inr over ↦
        let none : blanks_left c ≡ 0 = omega arith in
        inl (kept (IsOf s) (λ c. blanks_left c ≡ 0) (HeardOnly s t) (ShowsNothingFalse s t) text_kept ms c switched_on
        all none (nothing_heard s t c) tt)
  ]

  shown_tuned : (ms : List Moment) (c : Carousel) (r : Receiver) → AllByRecursion (IsOf s) ms
      → AllByRecursion (λ m. IsElsewhere (pi_of m.store) r) ms
      → ((after_damage ms c r).pi ≡ r.pi) ⊎ ShowsNothingElse s t c (after_damage ms c r)
  shown_tuned ms c r all elsewhere = elim (cases_lt 0 (blanks_left c)) [
    | inl some ↦ elim (elsewhere_before (IsOf s) (Stage t) (HeardStart s t) ShowsEither start_kept ms c r all
        (Begins some) elsewhere) [
          | inl stays ↦ inl stays
          | inr shows ↦ inr (either_or c (after_damage ms c r) some shows)
        ]
    | inr over ↦
        let none : blanks_left c ≡ 0 = omega arith in
        elim (elsewhere_before (IsOf s) (λ c. blanks_left c ≡ 0) (HeardOnly s t) (ShowsNothingFalse s t) text_kept ms c
        r all none elsewhere) [
          | inl stays ↦ inl stays
          | inr shows ↦ inr (inl shows)
        ]
  ]

-- where no 15B goes out between either
each_has : (s : ServiceData) (ms : List Moment) → AllByRecursion (λ m. HasFlags s m.store) ms
    → AllByRecursion (λ m. Has s m.store) ms
each_has s [] flags = flags
each_has s (m ∷ ms) flags = (flags.0.has, each_has s ms flags.1)

pub nothing_false_is_shown : NothingFalseIsShown
nothing_false_is_shown = record {
  new = λ s t ms c ok e flags damage. shown_new s t ok e ms c (are_of s ms (each_has s ms flags) damage);
  tuned = λ s t ms c r ok e flags damage elsewhere.
      let has = each_has s ms flags in
      shown_tuned s t ok e ms c r (are_of s ms has damage) (all_elsewhere s ms r has elsewhere);
}
