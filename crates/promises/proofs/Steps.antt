-- The next group of a carousel, and what comes of it.
use Rattle.std.proofs.Common.{◌≡◌, ◌⊎◌, ℕ, zero, suc, ◌+◌, ◌<◌, Bool, true, false, List, [], ◌∷◌, length, Option, Some}
use Rattle.std.proofs.Common.{refl, ap, sym, subst, arith, if◌then◌else◌, inl, inr}
use Rattle.std.specs.Prelude.{IfSome, slice_get, bytes_eq}
use Rattle.std.specs.List.{All, AllByRecursion}
use Rattle.std.proofs.lemmas.Slice.Eq.{bytes_eq-Decides}
use Rattle.rds_groups.specs.Groups.{blocks}
use Rattle.rds_groups.specs.declared.group.Group.{Group}
use Rattle.rds_store.specs.Value.{Store, ServiceData, StoredText}
use Rattle.rds_store.specs.declared.group.Group.{Group as StoredGroup}
use Rattle.rds_groups.specs.Heard.{came}
use Rattle.rds_groups.specs.Shown.{Receiver, hears_own}
use Rattle.rds_groups.specs.Damage.{GroupDamage, IsGroupDamage, damaged}
use Rattle.rds_groups.specs.ReceiverLaws.{IsRightOrMissing}
use Rattle.rds_groups.proofs.Public.{no_word_is_wrong}
use Rattle.carousel.specs.Carousel.{Carousel}
use Rattle.carousel.specs.Texts.{line_up, no_text, text_next}
use Rattle.carousel.specs.Service.{main_service}
use Rattle.carousel.specs.Next.{turn, name_next, name_group, text_group, send_name, send_text, free_group, send_other}
use Rattle.carousel.specs.Next.{next_group, is_waiting}
use Rattle.promises.specs.OnAir.{IsService, IsText, IsOther, Has, carousel_after}
use Rattle.promises.proofs.Words.{tuned_to, name_told, text_told, told_name, told_text, told_free, name_words}
use Rattle.promises.proofs.Words.{text_words, free_words}
use Rattle.promises.proofs.AirHearing.{known, named_now, texted_now, hears_name, hears_text, hears_free, hears_part}
use Rattle.promises.proofs.Choice.{IsFine, next_fine, fine_small}
use Rattle.promises.proofs.Places.{turn_below}

-- The next group is of the name, of the text, or one that waits.
pub next_is : (v : Store) (c : Carousel) (P : Group × Carousel → Type 0)
    → (c.is_other ≡ false → P (send_name (main_service v) c))
    → (c.is_other ≡ true → P (send_text (main_service v) c))
    → (c.is_other ≡ true → (g : StoredGroup) (gs : List StoredGroup) → v.groups ≡ g ∷ gs
    → P (free_group (main_service v) g, record c { is_other = false }))
    → P (next_group v c)
next_is v c P name text free = by c.is_other refl
  where
    other : (gs : List StoredGroup) → v.groups ≡ gs → c.is_other ≡ true → P (send_other (main_service v) gs c)
    other [] e h = text h
    other (g ∷ gs) e h = free h g gs e

    by : (b : Bool) → c.is_other ≡ b
        → P (if b then send_other (main_service v) v.groups c else send_name (main_service v) c)
    by true h = other v.groups refl h
    by false h = name h

pub same_bytes : (xs : List ℕ) → bytes_eq xs xs ≡ true
same_bytes xs = (bytes_eq-Decides xs xs).1 refl

pub name_below : (s : ServiceData) (c : Carousel) → name_next s c < 4
name_below s c = by (bytes_eq c.name s.ps)
  where
    by : (b : Bool) → (if b then turn 4 c.name_segment else 0) < 4
    by true = turn_below 4 c.name_segment (omega arith)
    by false = omega arith

-- after a segment of the name comes the one after it
pub goes_on : (s : ServiceData) (c : Carousel) → name_next s (send_name s c).1 ≡ turn 4 (name_next s c + 1)
goes_on s c = ap (λ b. if b then turn 4 (name_next s c + 1) else 0) (same_bytes s.ps)

pub texts_ok : (s : ServiceData) → IsService s → All IsText (line_up s.texts)
texts_ok s ok = by s.texts ok.texts
  where
    by : (ts : List StoredText) → All IsText ts → All IsText (line_up ts)
    by [] all = one
      where
        one : All IsText (no_text ∷ [])
        one zero d h = record { short = omega arith; are_bytes = λ k e i. absurd (omega arith) }
        one (suc k) d h = absurd (omega arith)
    by (t ∷ ts) all = all

pub fine : (s : ServiceData) (c : Carousel) → IsService s → IsFine (text_next (line_up s.texts) c)
fine s c ok = next_fine (line_up s.texts) c (texts_ok s ok)

-- the text that is on the air once its turn came
abbrev pub on_air : ServiceData → Carousel → Carousel
on_air s c = text_next (line_up s.texts) c

pub first_other : (v : Store) (g : StoredGroup) (gs : List StoredGroup) → IfSome (slice_get v.groups 0) IsOther
    → v.groups ≡ g ∷ gs → IsOther g
first_other v g gs first e = subst (λ (xs : List StoredGroup). IfSome (slice_get xs 0) IsOther) e first

-- What comes of the next group of a service.
pub step_is : (s : ServiceData) (v : Store) (c : Carousel) (r : Receiver) (P : Carousel → Receiver → Type 0)
    → IsService s → Has s v
    → (c.is_other ≡ false → P (send_name s c).1 (named_now s (name_next s c) r))
    → (c.is_other ≡ true → P (send_text s c).1 (texted_now s (on_air s c) r))
    → (c.is_other ≡ true → is_waiting v.groups ≡ true → P (record c { is_other = false }) (known s r))
    → P (next_group v c).1 (hears_own (came (blocks (next_group v c).0)) r)
step_is s v c r P ok has name text free =
    next_is v c (λ sent. P sent.1 (hears_own (came (blocks sent.0)) r))
    (λ h. subst (λ (u : ServiceData). P (send_name u c).1 (hears_own (came (blocks (send_name u c).0)) r))
    (sym has.same) (subst (P (send_name s c).1) (sym (hears_name s (name_next s c) r ok (name_below s c))) (name h)))
    (λ h. subst (λ (u : ServiceData). P (send_text u c).1 (hears_own (came (blocks (send_text u c).0)) r))
    (sym has.same) (let f = fine s c ok in
    subst (P (send_text s c).1) (sym (hears_text s (on_air s c) r ok (fine_small (on_air s c) f) f.are_bytes))
    (text h)))
    (λ h g gs e. subst (λ (u : ServiceData). P (record c { is_other = false })
    (hears_own (came (blocks (free_group u g))) r)) (sym has.same)
    (subst (P (record c { is_other = false })) (sym (hears_free s g r ok (first_other v g gs has.first e)))
    (free h (ap is_waiting e))))

-- ---- Runs.
-- a receiver after the groups of these stores, each of which it takes for its own station's
abbrev pub own_after : List Store → Carousel → Receiver → Receiver
own_after [] c r = r
own_after (v ∷ vs) c r = own_after vs (next_group v c).1 (hears_own (came (blocks (next_group v c).0)) r)

-- the sum of what each store adds
abbrev pub total : (Store → ℕ) → List Store → ℕ
total extra [] = 0
total extra (v ∷ vs) = extra v + total extra vs

-- What each group keeps, and what each group brings or brings nearer, is so once there were enough groups.
pub comes : (s : ServiceData) (Good : Carousel → Receiver → Type 0) (wait : Carousel → ℕ) (extra : Store → ℕ)
    → ((v : Store) → Has s v → (c : Carousel) (r : Receiver) → Good c r
    → Good (next_group v c).1 (hears_own (came (blocks (next_group v c).0)) r))
    → ((v : Store) → Has s v → (c : Carousel) (r : Receiver)
    → Good (next_group v c).1 (hears_own (came (blocks (next_group v c).0)) r)
    ⊎ (wait (next_group v c).1 < wait c + extra v))
    → (vs : List Store) → AllByRecursion (Has s) vs → (c : Carousel) (r : Receiver)
    → Good c r ⊎ (wait c + total extra vs < length vs) → Good (carousel_after vs c) (own_after vs c r)
comes s Good wait extra keeps brings [] all c r (inl good) = good
comes s Good wait extra keeps brings [] all c r (inr soon) = absurd (omega arith)
comes s Good wait extra keeps brings (v ∷ vs) all c r (inl good) =
    comes s Good wait extra keeps brings vs all.1 (next_group v c).1 (hears_own (came (blocks (next_group v c).0)) r)
    (inl (keeps v all.0 c r good))
comes s Good wait extra keeps brings (v ∷ vs) all c r (inr soon) =
    comes s Good wait extra keeps brings vs all.1 (next_group v c).1 (hears_own (came (blocks (next_group v c).0)) r)
    (elim (brings v all.0 c r) [ inl good ↦ inl good | inr less ↦ inr (omega arith) ])

pub none : (vs : List Store) → total (λ v. 0) vs ≡ 0
none [] = refl
none (v ∷ vs) = let e = none vs in omega arith

-- ---- A group that comes damaged.
pub part_step : (s : ServiceData) (v : Store) (d : GroupDamage) (c : Carousel) (r : Receiver)
    (Before : Receiver → Type 0) (After : Carousel → Receiver → Type 0) → IsService s → Has s v → IsGroupDamage d
    → Before r
    → ((q : Receiver) → Before q → Before (record q { pi = Some s.pi }))
    → ((e : Carousel) (q : Receiver) → Before q → After e (record q { coming = [] }))
    → ((block4 : Option ℕ) → IsRightOrMissing (name_group s (name_next s c)).block4 block4
    → (q : Receiver) → Before q → After (send_name s c).1 (name_told s (name_next s c) block4 q))
    → ((block3 block4 : Option ℕ) → IsRightOrMissing (text_group s (on_air s c)).block3 block3
    → IsRightOrMissing (text_group s (on_air s c)).block4 block4
    → (q : Receiver) → Before q → After (send_text s c).1 (text_told s (on_air s c) block3 block4 q))
    → ((q : Receiver) → Before q → After (record c { is_other = false }) (tuned_to s q))
    → After (next_group v c).1 (hears_own (came (damaged d (blocks (next_group v c).0))) r)
part_step s v d c r Before After ok has damage before identifies loses name text free =
    next_is v c (λ sent. After sent.1 (hears_own (came (damaged d (blocks sent.0))) r))
    (λ h. subst (λ (u : ServiceData).
    After (send_name u c).1 (hears_own (came (damaged d (blocks (send_name u c).0))) r))
    (sym has.same)
    (let g = name_group s (name_next s c) in
    let heard = came (damaged d (blocks g)) in
    let part = no_word_is_wrong g d (name_words s (name_next s c) ok (name_below s c)) damage in
    hears_part Before (After (send_name s c).1) g heard r part before identifies (loses (send_name s c).1)
    (λ q good. subst (After (send_name s c).1) (sym (told_name s (name_next s c) heard q ok (name_below s c)))
    (name heard.block4 part.block4 q good))))
    (λ h. subst (λ (u : ServiceData).
    After (send_text u c).1 (hears_own (came (damaged d (blocks (send_text u c).0))) r))
    (sym has.same)
    (let g = text_group s (on_air s c) in
    let f = fine s c ok in
    let heard = came (damaged d (blocks g)) in
    let part = no_word_is_wrong g d (text_words s (on_air s c) ok (fine_small (on_air s c) f) f.are_bytes) damage in
    hears_part Before (After (send_text s c).1) g heard r part before identifies (loses (send_text s c).1)
    (λ q good. subst (After (send_text s c).1) (sym (told_text s (on_air s c) heard q ok (fine_small (on_air s c) f)))
    (text heard.block3 heard.block4 part.block3 part.block4 q good))))
    (λ h w gs e. subst (λ (u : ServiceData). After (record c { is_other = false })
    (hears_own (came (damaged d (blocks (free_group u w)))) r)) (sym has.same)
    (let g = free_group s w in
    let other = first_other v w gs has.first e in
    let heard = came (damaged d (blocks g)) in
    let part = no_word_is_wrong g d (free_words s w ok other) damage in
    hears_part Before (After (record c { is_other = false })) g heard r part before identifies
    (loses (record c { is_other = false }))
    (λ q good. subst (After (record c { is_other = false })) (sym (told_free s w heard q ok other)) (free q good))))
