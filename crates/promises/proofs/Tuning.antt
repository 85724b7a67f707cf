-- Whose the groups are that a receiver hears, and when it begins anew.
use Rattle.std.proofs.Common.{◌≡◌, ◌⊎◌, ℕ, ◌+◌, ◌/◌, ◌%◌, ◌≤◌, Bool, true, false, not, List, [], ◌∷◌, length}
use Rattle.std.proofs.Common.{Option, Some, None, refl, ap, sym, ◌∙◌, subst, arith, inl, inr, if◌then◌else◌, ◌==◌}
use Rattle.std.specs.Prelude.{IfSome}
use Rattle.std.specs.List.{AllByRecursion}
use Rattle.std.proofs.lemmas.Bool.{cases_Bool, eq-eqb, false≢true}
use Rattle.rds_groups.specs.Groups.{bit, blocks}
use Rattle.rds_groups.specs.declared.heard.HeardGroup.{HeardGroup}
use Rattle.rds_groups.specs.Heard.{came}
use Rattle.rds_groups.specs.Damage.{GroupDamage, IsGroupDamage, damaged}
use Rattle.rds_groups.specs.ReceiverLaws.{IsRightOrMissing}
use Rattle.rds_groups.proofs.Public.{comes_whole, no_word_is_wrong}
use Rattle.rds_groups.specs.Shown.{Receiver, switched_on, named, name_heard, text_heard, identified, tuned, told}
use Rattle.rds_groups.specs.Shown.{hears_own, is_another, holds, hears_another, hears}
use Rattle.rds_store.specs.Value.{Store, ServiceData}
use Rattle.carousel.specs.Carousel.{Carousel}
use Rattle.carousel.specs.Service.{main_service}
use Rattle.carousel.specs.Next.{name_next, name_group, text_group, free_group, next_group}
use Rattle.promises.specs.OnAir.{IsService, IsStore, Has, after, carousel_after, pi_of, pi_after, BeginsWith, PisStay}
use Rattle.promises.specs.OnAir.{HasHeardAnother}
use Rattle.promises.proofs.Words.{bit_small, name_words, text_words, free_words}
use Rattle.promises.proofs.Choice.{fine_small}
use Rattle.promises.proofs.Steps.{next_is, name_below, fine, on_air, first_other, own_after}

-- ---- A group of the station leaves its PI, if it has one, and what is held.
named_pi : (segment : ℕ) (block4 : Option ℕ) (r : Receiver) → (named segment block4 r).pi ≡ r.pi
named_pi segment None r = refl
named_pi segment (Some word) r = refl

named_held : (segment : ℕ) (block4 : Option ℕ) (r : Receiver) → (named segment block4 r).held ≡ r.held
named_held segment None r = refl
named_held segment (Some word) r = refl

abbrev typed : (name text : Bool) (block2 : ℕ) → HeardGroup → Receiver → Receiver
typed name text block2 g r =
    if name then name_heard block2 g.block4 r else if text then text_heard block2 g.block3 g.block4 r else r

typed_pi : (name text : Bool) (block2 : ℕ) (g : HeardGroup) (r : Receiver) → (typed name text block2 g r).pi ≡ r.pi
typed_pi true text block2 g r = named_pi (block2 % 4) g.block4 _
typed_pi false true block2 g r = refl
typed_pi false false block2 g r = refl

typed_held : (name text : Bool) (block2 : ℕ) (g : HeardGroup) (r : Receiver)
    → (typed name text block2 g r).held ≡ r.held
typed_held true text block2 g r = named_held (block2 % 4) g.block4 _
typed_held false true block2 g r = refl
typed_held false false block2 g r = refl

told_pi : (block2 : Option ℕ) (g : HeardGroup) (r : Receiver) → (told block2 g r).pi ≡ r.pi
told_pi None g r = refl
told_pi (Some block2) g r = typed_pi (block2 / 4096 == 0) (block2 / 4096 == 2) block2 g (tuned block2 r)

told_held : (block2 : Option ℕ) (g : HeardGroup) (r : Receiver) → (told block2 g r).held ≡ r.held
told_held None g r = refl
told_held (Some block2) g r = typed_held (block2 / 4096 == 0) (block2 / 4096 == 2) block2 g (tuned block2 r)

identified_held : (block1 : Option ℕ) (r : Receiver) → (identified block1 r).held ≡ r.held
identified_held None r = refl
identified_held (Some pi) r = refl

pub own_held : (g : HeardGroup) (r : Receiver) → (hears_own g r).held ≡ r.held
own_held g r = told_held g.block2 g (identified g.block1 r) ∙ identified_held g.block1 r

pub own_pi : (g : HeardGroup) (r : Receiver) (pi : ℕ) → g.block1 ≡ Some pi → (hears_own g r).pi ≡ Some pi
own_pi g r pi e = told_pi g.block2 g (identified g.block1 r) ∙ ap (λ (o : Option ℕ). (identified o r).pi) e

pub own_no_pi : (g : HeardGroup) (r : Receiver) → g.block1 ≡ None → (hears_own g r).pi ≡ r.pi
own_no_pi g r e = told_pi g.block2 g (identified g.block1 r) ∙ ap (λ (o : Option ℕ). (identified o r).pi) e

-- ---- The ways to hear a group.
pub same_pi : (pi : ℕ) → is_another (Some pi) (Some pi) ≡ false
same_pi pi = ap not (eq-eqb pi pi refl)

pub no_pi : (o : Option ℕ) → is_another o None ≡ false
no_pi None = refl
no_pi (Some pi) = refl

-- a receiver that holds nothing
abbrev pub alone : Receiver → Receiver
alone r = record r { held = None }

is_alone : (r : Receiver) → r.held ≡ None → alone r ≡ r
is_alone r none = ap (λ (o : Option HeardGroup). let q : Receiver = record r { held = o } in q) (sym none)

pub hears_same : (g : HeardGroup) (r : Receiver) → is_another r.pi g.block1 ≡ false
    → hears g r ≡ hears_own g (alone r)
hears_same g r e = ap (λ b. if b then hears_another r.held g r else hears_own g (alone r)) e

hears_other : (g : HeardGroup) (r : Receiver) → is_another r.pi g.block1 ≡ true → hears g r ≡ hears_another r.held g r
hears_other g r e = ap (λ b. if b then hears_another r.held g r else hears_own g (alone r)) e

holds_it : (g : HeardGroup) (r : Receiver) → is_another r.pi g.block1 ≡ true → r.held ≡ None → hears g r ≡ holds g r
holds_it g r other none = hears_other g r other ∙ ap (λ (o : Option HeardGroup). hears_another o g r) none

begins : (g : HeardGroup) (r : Receiver) (f : HeardGroup) → is_another r.pi g.block1 ≡ true → r.held ≡ Some f
    → is_another f.block1 g.block1 ≡ false → hears g r ≡ hears_own g (hears_own f switched_on)
begins g r f other held same =
    hears_other g r other ∙ ap (λ (o : Option HeardGroup). hears_another o g r) held
    ∙ ap (λ b. if b then holds g r else hears_own g (hears_own f switched_on)) same

-- one of another station is held, or confirms the one that is held
pub record Begins (g : HeardGroup) (r : Receiver) : Type 0 where
  pub first : HeardGroup
  pub held : r.held ≡ Some first
  pub same : is_another first.block1 g.block1 ≡ false
  pub hears : hears g r ≡ hears_own g (hears_own first switched_on)

pub another : (g : HeardGroup) (r : Receiver) → is_another r.pi g.block1 ≡ true
    → (hears g r ≡ holds g r) ⊎ Begins g r
another g r other = by r.held refl
  where
    by : (o : Option HeardGroup) → r.held ≡ o → (hears g r ≡ holds g r) ⊎ Begins g r
    by None none = inl (holds_it g r other none)
    by (Some f) held = elim (cases_Bool (is_another f.block1 g.block1)) [
      | inl apart ↦ inl (hears_other g r other ∙ ap (λ (o : Option HeardGroup). hears_another o g r) held
          ∙ ap (λ b. if b then holds g r else hears_own g (hears_own f switched_on)) apart)
      | inr same ↦ inr (record { first = f; held = held; same = same; hears = begins g r f other held same })
    ]

-- ---- The PI of what a store sends.
abbrev pub heard : Store → Carousel → HeardGroup
heard v c = came (blocks (next_group v c).0)

pub block1_is : (v : Store) (c : Carousel) → IsStore v → (heard v c).block1 ≡ Some (pi_of v)
block1_is v c ok =
    let s = main_service v in
    next_is v c (λ sent. (came (blocks sent.0)).block1 ≡ Some (pi_of v))
    (λ h. ap (λ (h : HeardGroup). h.block1) (comes_whole (name_group s (name_next s c))
    (name_words s (name_next s c) ok.service (name_below s c))))
    (λ h. let f = fine s c ok.service in
    ap (λ (h : HeardGroup). h.block1) (comes_whole (text_group s (on_air s c))
    (text_words s (on_air s c) ok.service (fine_small (on_air s c) f) f.are_bytes)))
    (λ h g gs e. ap (λ (h : HeardGroup). h.block1) (comes_whole (free_group s g)
    (free_words s g ok.service (first_other v g gs ok.first e))))

pub block1_part : (v : Store) (d : GroupDamage) (c : Carousel) → IsStore v → IsGroupDamage d
    → IsRightOrMissing (pi_of v) (came (damaged d (blocks (next_group v c).0))).block1
block1_part v d c ok damage =
    let s = main_service v in
    next_is v c (λ sent. IsRightOrMissing (pi_of v) (came (damaged d (blocks sent.0))).block1)
    (λ h. (no_word_is_wrong (name_group s (name_next s c)) d
    (name_words s (name_next s c) ok.service (name_below s c)) damage).block1)
    (λ h. let f = fine s c ok.service in
    (no_word_is_wrong (text_group s (on_air s c)) d
    (text_words s (on_air s c) ok.service (fine_small (on_air s c) f) f.are_bytes) damage).block1)
    (λ h g gs e. (no_word_is_wrong (free_group s g) d
    (free_words s g ok.service (first_other v g gs ok.first e)) damage).block1)

-- ---- A PI that stays: behind the first group, or the second, all are the station's own.
pub store_has : (s : ServiceData) (v : Store) → IsService s → Has s v → IsStore v
store_has s v ok has = record { service = subst IsService (sym has.same) ok; first = has.first }

pub stores_have : (s : ServiceData) → IsService s → (vs : List Store) → AllByRecursion (Has s) vs
    → AllByRecursion IsStore vs
stores_have s ok [] all = tt
stores_have s ok (v ∷ vs) all = (store_has s v ok all.0, stores_have s ok vs all.1)

pub pis_are : (s : ServiceData) (vs : List Store) → AllByRecursion (Has s) vs
    → AllByRecursion (λ v. pi_of v ≡ s.pi) vs
pis_are s [] all = tt
pis_are s (v ∷ vs) all = (ap (λ (u : ServiceData). u.pi) all.0.same, pis_are s vs all.1)

module _ (pi : ℕ) where
  is_this : (v : Store) (c : Carousel) → IsStore v → pi_of v ≡ pi → (heard v c).block1 ≡ Some pi
  is_this v c ok same = block1_is v c ok ∙ ap (λ (n : ℕ). Some n) same

  settled : (vs : List Store) (c : Carousel) (r : Receiver) → AllByRecursion IsStore vs
      → AllByRecursion (λ v. pi_of v ≡ pi) vs → is_another r.pi (Some pi) ≡ false → r.held ≡ None
      → after vs c r ≡ own_after vs c r
  settled [] c r ok all same none = refl
  settled (v ∷ vs) c r ok all same none =
      let g = heard v c in
      let c' = (next_group v c).1 in
      let is = is_this v c ok.0 all.0 in
      ap (after vs c') (hears_same g r (ap (is_another r.pi) is ∙ same) ∙ ap (hears_own g) (is_alone r none))
      ∙ settled vs c' (hears_own g r) ok.1 all.1
      (ap (λ (o : Option ℕ). is_another o (Some pi)) (own_pi g r pi is) ∙ same_pi pi) (own_held g r ∙ none)

  -- behind one group
  settled_behind : (vs : List Store) (c : Carousel) (g : HeardGroup) (r : Receiver) → AllByRecursion IsStore vs
      → AllByRecursion (λ v. pi_of v ≡ pi) vs → g.block1 ≡ Some pi → r.held ≡ None
      → after vs c (hears_own g r) ≡ own_after vs c (hears_own g r)
  settled_behind vs c g r ok all is none =
      settled vs c (hears_own g r) ok all
      (ap (λ (o : Option ℕ). is_another o (Some pi)) (own_pi g r pi is) ∙ same_pi pi) (own_held g r ∙ none)

  second : (vs : List Store) (c : Carousel) (g : HeardGroup) (r : Receiver) → AllByRecursion IsStore vs
      → AllByRecursion (λ v. pi_of v ≡ pi) vs → 1 ≤ length vs → g.block1 ≡ Some pi
      → is_another r.pi (Some pi) ≡ true → after vs c (holds g r) ≡ own_after vs c (hears_own g switched_on)
  second [] c g r ok all enough is other = absurd (omega arith)
  second (v ∷ vs) c g r ok all enough is other =
      let h = heard v c in
      let now = is_this v c ok.0 all.0 in
      let c' = (next_group v c).1 in
      ap (after vs c') (begins h (holds g r) g (ap (is_another r.pi) now ∙ other) refl
      (ap (λ (o : Option ℕ). is_another o h.block1) is ∙ ap (is_another (Some pi)) now ∙ same_pi pi))
      ∙ settled_behind vs c' h (hears_own g switched_on) ok.1 all.1 now (own_held g switched_on)

  -- it is then as one that takes each for its own, from the beginning or from what was held on
  pub steady : (vs : List Store) (c : Carousel) (r : Receiver) → AllByRecursion IsStore vs
      → AllByRecursion (λ v. pi_of v ≡ pi) vs → 1 + bit (is_another r.pi (Some pi)) ≤ length vs
      → (q : Receiver) × (after vs c r ≡ own_after vs c q)
  steady [] c r ok all enough = absurd (omega arith)
  steady (v ∷ vs) c r ok all enough =
      let g = heard v c in
      let c' = (next_group v c).1 in
      let is = is_this v c ok.0 all.0 in
      elim (cases_Bool (is_another r.pi (Some pi))) [
        | inl other ↦ elim (another g r (ap (is_another r.pi) is ∙ other)) [
          | inl held ↦ (
            switched_on,
            ap (after vs c') held
                ∙ second vs c' g r ok.1 all.1 (let two = ap bit other in omega arith) is other,
          )
          | inr b ↦ (
            hears_own b.first switched_on,
            ap (after vs c') b.hears
                ∙ settled_behind vs c' g (hears_own b.first switched_on) ok.1 all.1 is
                (own_held b.first switched_on),
          )
        ]
        | inr same ↦ (
          alone r,
          ap (after vs c') (hears_same g r (ap (is_another r.pi) is ∙ same))
              ∙ settled_behind vs c' g (alone r) ok.1 all.1 is refl,
        )
      ]

-- so of a service that stays, from the second group on
pub service_steady : (s : ServiceData) → IsService s → (vs : List Store) → AllByRecursion (Has s) vs → 2 ≤ length vs
    → (c : Carousel) (r : Receiver) → (q : Receiver) × (after vs c r ≡ own_after vs c q)
service_steady s ok vs all enough c r =
    steady s.pi vs c r (stores_have s ok vs all) (pis_are s vs all)
    (let b = bit_small (is_another r.pi (Some s.pi)) in omega arith)

-- ---- PIs that change: where each new one stays for two groups none is missed.
-- what is to be so of each group
abbrev pub AllOk : (Ok : Store → Carousel → Type 0) → List Store → Carousel → Type 0
AllOk Ok [] c = Unit {0}
AllOk Ok (v ∷ vs) c = Ok v c × AllOk Ok vs (next_group v c).1

-- how a receiver stands to the PI before: it is tuned to that; it holds the first group with it; it heard another
-- station; or whatever it heard is good
pub data Standing (P : Carousel → Receiver → Type 0) (vs : List Store) (before : Option ℕ) (c : Carousel)
    (r : Receiver) : Type 0 where
  Settled : r.pi ≡ before → r.held ≡ None → P c r → Standing P vs before c r
  Waiting : (pi : ℕ) (g : HeardGroup) → before ≡ Some pi → r.held ≡ Some g → g.block1 ≡ Some pi
      → is_another r.pi (Some pi) ≡ true → P c (hears_own g switched_on) → BeginsWith pi vs → Standing P vs before c r
  Elsewhere : r.pi ≡ before → HasHeardAnother vs r → Standing P vs before c r
  Anything : r.pi ≡ before → ((q : Receiver) → P c q) → Standing P vs before c r

module _ (Ok : Store → Carousel → Type 0) (P : Carousel → Receiver → Type 0)
    (own : (v : Store) (c : Carousel) (r : Receiver) → IsStore v → Ok v c → P c r
    → P (next_group v c).1 (hears_own (heard v c) r))
    (anew : (v : Store) (c : Carousel) → IsStore v → Ok v c
    → P (next_group v c).1 (hears_own (heard v c) switched_on)) where
  module _ (v : Store) (vs : List Store) (before : Option ℕ) (c : Carousel) (r : Receiver) (ok : IsStore v)
      (good : Ok v c) (stays : is_another before (Some (pi_of v)) ≡ true → BeginsWith (pi_of v) vs) where
    abbrev Next : Receiver → Type 0
    Next q = Standing P vs (Some (pi_of v)) (next_group v c).1 q

    -- the group is held
    waits : hears (heard v c) r ≡ holds (heard v c) r → r.pi ≡ before → is_another r.pi (Some (pi_of v)) ≡ true
        → Next (hears (heard v c) r)
    waits held is other =
        subst Next (sym held) (Waiting (pi_of v) (heard v c) refl refl (block1_is v c ok) other (anew v c ok good)
        (stays (ap (λ (o : Option ℕ). is_another o (Some (pi_of v))) (sym is) ∙ other)))

    -- the group is heard as the station's own
    goes_on : (q : Receiver) → hears (heard v c) r ≡ hears_own (heard v c) q → q.held ≡ None → P c q
        → Next (hears (heard v c) r)
    goes_on q is none so_far =
        subst Next (sym is) (Settled (own_pi (heard v c) q (pi_of v) (block1_is v c ok)) (own_held (heard v c) q ∙ none)
        (own v c q ok good so_far))

    is_other : is_another r.pi (Some (pi_of v)) ≡ true → is_another r.pi (heard v c).block1 ≡ true
    is_other other = ap (is_another r.pi) (block1_is v c ok) ∙ other

    is_same : is_another r.pi (Some (pi_of v)) ≡ false → is_another r.pi (heard v c).block1 ≡ false
    is_same same = ap (is_another r.pi) (block1_is v c ok) ∙ same

    next : Standing P (v ∷ vs) before c r → Next (hears (heard v c) r)
    next (Settled is none so_far) = elim (cases_Bool (is_another r.pi (Some (pi_of v)))) [
      | inl other ↦ waits (holds_it (heard v c) r (is_other other) none) is other
      | inr same ↦ goes_on r
          (hears_same (heard v c) r (is_same same) ∙ ap (hears_own (heard v c)) (is_alone r none)) none so_far
    ]
    next (Waiting pi g is held has other so_far begun) =
        let now : (heard v c).block1 ≡ Some pi = block1_is v c ok ∙ ap (λ (n : ℕ). Some n) begun in
        goes_on (hears_own g switched_on)
        (begins (heard v c) r g (ap (is_another r.pi) now ∙ other) held
        (ap (λ (o : Option ℕ). is_another o (heard v c).block1) has ∙ ap (is_another (Some pi)) now ∙ same_pi pi))
        (own_held g switched_on) so_far
    next (Elsewhere is heard_it) = elim (another (heard v c) r (is_other heard_it.tuned)) [
      | inl held ↦ waits held is heard_it.tuned
      | inr b ↦
          let holds = subst (λ (o : Option HeardGroup). IfSome o (λ g. is_another g.block1 (Some (pi_of v)) ≡ true))
          b.held heard_it.holds in
          absurd (false≢true (sym b.same ∙ ap (is_another b.first.block1) (block1_is v c ok) ∙ holds))
    ]
    next (Anything is all) = elim (cases_Bool (is_another r.pi (Some (pi_of v)))) [
      | inl other ↦ elim (another (heard v c) r (is_other other)) [
        | inl held ↦ waits held is other
        | inr b ↦ goes_on (hears_own b.first switched_on) b.hears (own_held b.first switched_on)
            (all (hears_own b.first switched_on))
      ]
      | inr same ↦ goes_on (alone r) (hears_same (heard v c) r (is_same same)) refl (all (alone r))
    ]

  pub run : (vs : List Store) (before : Option ℕ) (c : Carousel) (r : Receiver) → AllByRecursion IsStore vs
      → AllOk Ok vs c → PisStay before vs → Standing P vs before c r
      → is_another (after vs c r).pi (pi_after vs before) ≡ false → P (carousel_after vs c) (after vs c r)
  run [] before c r ok all stay (Settled is none good) shows = good
  run [] before c r ok all stay (Waiting pi g is held has other good begun) shows =
      absurd (false≢true (sym shows ∙ ap (is_another r.pi) is ∙ other))
  run [] before c r ok all stay (Elsewhere is heard_it) shows = absurd heard_it
  run [] before c r ok all stay (Anything is good) shows = good r
  run (v ∷ vs) before c r ok all stay standing shows =
      run vs (Some (pi_of v)) (next_group v c).1 (hears (heard v c) r) ok.1 all.1 stay.1
      (next v vs before c r ok.0 all.0 stay.0 standing) shows
