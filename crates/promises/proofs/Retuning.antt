-- What a receiver shows that heard another station before, whatever comes damaged.
use Rattle.std.proofs.Common.{◌≡◌, ◌⊎◌, ℕ, true, List, [], ◌∷◌, Option, Some, None, refl, ap, sym, ◌∙◌}
use Rattle.std.proofs.Common.{subst, inl, inr}
use Rattle.std.specs.Prelude.{IfSome}
use Rattle.std.specs.List.{AllByRecursion}
use Rattle.std.proofs.lemmas.Bool.{cases_Bool, false≢true}
use Rattle.rds_groups.specs.Groups.{blocks}
use Rattle.rds_groups.specs.declared.heard.HeardGroup.{HeardGroup}
use Rattle.rds_groups.specs.Heard.{came}
use Rattle.rds_groups.specs.Damage.{IsGroupDamage, damaged}
use Rattle.rds_groups.specs.Shown.{Receiver, switched_on, hears_own, is_another, holds}
use Rattle.carousel.specs.Carousel.{Carousel}
use Rattle.carousel.specs.Next.{next_group}
use Rattle.promises.specs.OnAir.{IsStore, Moment, after_damage, pi_of, IsElsewhere}
use Rattle.promises.proofs.Tuning.{own_held, own_no_pi, no_pi, alone, hears_same, Begins, another, block1_part}

abbrev pub heard : Moment → Carousel → HeardGroup
heard m c = came (damaged m.damage (blocks (next_group m.store c).0))

-- What is kept by a group of the station and by one that is missed, and what is shown then.
pub record Kept (Ok : Moment → Type 0) (K : Carousel → Type 0) (P : Carousel → Receiver → Type 0)
    (Shows : Receiver → Type 0) : Type 0 where
  pub store : (m : Moment) → Ok m → IsStore m.store
  pub damage : (m : Moment) → Ok m → IsGroupDamage m.damage
  pub moves : (m : Moment) (c : Carousel) → Ok m → K c → K (next_group m.store c).1
  pub starts : (c : Carousel) → K c → P c switched_on
  pub own : (m : Moment) (c : Carousel) (r : Receiver) → Ok m → K c → P c r
      → P (next_group m.store c).1 (hears_own (heard m c) r)
  pub misses : (m : Moment) (c : Carousel) (r : Receiver) → Ok m → K c → P c r
      → P (next_group m.store c).1 (record r { coming = [] })
  pub holds : (c : Carousel) (r : Receiver) (o : Option HeardGroup) → P c r → P c (record r { held = o })
  pub shows : (c : Carousel) (r : Receiver) → P c r → Shows r

module _ (Ok : Moment → Type 0) (K : Carousel → Type 0) (P : Carousel → Receiver → Type 0)
    (Shows : Receiver → Type 0) (all : Kept Ok K P Shows) where
  -- a group that is held is one of these stations, or of none of those that come
  abbrev IsHeld : List Moment → Carousel → Option HeardGroup → Type 0
  IsHeld ms c None = Unit {0}
  IsHeld ms c (Some f) =
      P c (hears_own f switched_on) ⊎ AllByRecursion (λ m. is_another f.block1 (Some (pi_of m.store)) ≡ true) ms

  nothing_held : (ms : List Moment) (c : Carousel) (r : Receiver) → r.held ≡ None → IsHeld ms c r.held
  nothing_held ms c r none = subst (IsHeld ms c) (sym none) tt

  -- one that is confirmed is of a station that goes out
  confirmed : (m : Moment) (ms : List Moment) (c : Carousel) (r : Receiver) → Ok m
      → is_another r.pi (heard m c).block1 ≡ true → IsHeld (m ∷ ms) c r.held → (b : Begins (heard m c) r)
      → P c (hears_own b.first switched_on)
  confirmed m ms c r ok other held b = elim (subst (IsHeld (m ∷ ms) c) b.held held) [
    | inl good ↦ good
    | inr others ↦ elim (block1_part m.store m.damage c (all.store m ok) (all.damage m ok)) [
      | inl right ↦
          absurd (false≢true (sym b.same ∙ ap (is_another b.first.block1) right ∙ others.0))
      | inr missing ↦
          absurd (false≢true (sym (ap (is_another r.pi) missing ∙ no_pi r.pi) ∙ other))
    ]
  ]

  first_held : (m : Moment) (ms : List Moment) (c : Carousel) → Ok m → K c
      → IsHeld ms (next_group m.store c).1 (Some (heard m c))
  first_held m ms c ok k = inl (all.own m c switched_on ok k (all.starts c k))

  pub kept : (ms : List Moment) (c : Carousel) (r : Receiver) → AllByRecursion Ok ms → K c → P c r
      → IsHeld ms c r.held → Shows (after_damage ms c r)
  kept [] c r ok k good held = all.shows c r good
  kept (m ∷ ms) c r ok k good held =
      let g = heard m c in
      let c' = (next_group m.store c).1 in
      let k' = all.moves m c ok.0 k in
      let After : Receiver → Type 0 = λ q. Shows (after_damage ms c' q) in
      elim (cases_Bool (is_another r.pi g.block1)) [
        | inl other ↦ elim (another g r other) [
          | inl is ↦ subst After (sym is) (kept ms c' (holds g r) ok.1 k'
              (all.holds c' (record r { coming = [] }) (Some g) (all.misses m c r ok.0 k good))
              (first_held m ms c ok.0 k))
          | inr b ↦ subst After (sym b.hears) (kept ms c' (hears_own g (hears_own b.first switched_on)) ok.1 k'
              (all.own m c (hears_own b.first switched_on) ok.0 k (confirmed m ms c r ok.0 other held b))
              (nothing_held ms c' (hears_own g (hears_own b.first switched_on))
              (own_held g (hears_own b.first switched_on) ∙ own_held b.first switched_on)))
        ]
        | inr same ↦ subst After (sym (hears_same g r same)) (kept ms c' (hears_own g (alone r)) ok.1 k'
            (all.own m c (alone r) ok.0 k (all.holds c r None good))
            (nothing_held ms c' (hears_own g (alone r)) (own_held g (alone r))))
      ]

  -- the receiver is tuned to none of the stations that come
  abbrev IsAway : List Moment → Option ℕ → Type 0
  IsAway ms pi = AllByRecursion (λ m. is_another pi (Some (pi_of m.store)) ≡ true) ms

  away : (ms : List Moment) (c : Carousel) (r : Receiver) → AllByRecursion Ok ms → K c → IsAway ms r.pi
      → IsHeld ms c r.held → ((after_damage ms c r).pi ≡ r.pi) ⊎ Shows (after_damage ms c r)
  away [] c r ok k others held = inl refl
  away (m ∷ ms) c r ok k others held =
      let g = heard m c in
      let c' = (next_group m.store c).1 in
      let k' = all.moves m c ok.0 k in
      let After : Receiver → Type 0 = λ q. ((after_damage ms c' q).pi ≡ r.pi) ⊎ Shows (after_damage ms c' q) in
      elim (cases_Bool (is_another r.pi g.block1)) [
        | inl other ↦ elim (another g r other) [
          | inl is ↦
              subst After (sym is) (away ms c' (holds g r) ok.1 k' others.1 (first_held m ms c ok.0 k))
          | inr b ↦ subst After (sym b.hears) (inr (kept ms c' (hears_own g (hears_own b.first switched_on)) ok.1 k'
              (all.own m c (hears_own b.first switched_on) ok.0 k (confirmed m ms c r ok.0 other held b))
              (nothing_held ms c' (hears_own g (hears_own b.first switched_on))
              (own_held g (hears_own b.first switched_on) ∙ own_held b.first switched_on))))
        ]
        | inr same ↦ elim (block1_part m.store m.damage c (all.store m ok.0) (all.damage m ok.0)) [
          | inl right ↦ absurd (false≢true (sym same ∙ ap (is_another r.pi) right ∙ others.0))
          | inr missing ↦
              let q = hears_own g (alone r) in
              let stays : q.pi ≡ r.pi = own_no_pi g (alone r) missing in
              subst After (sym (hears_same g r same))
              (elim (away ms c' q ok.1 k' (subst (IsAway ms) (sym stays) others.1)
              (nothing_held ms c' q (own_held g (alone r)))) [
                | inl is ↦ inl (is ∙ stays)
                | inr shows ↦ inr shows
              ])
        ]
      ]

  tuned_away : (ms : List Moment) (r : Receiver) → AllByRecursion (λ m. IsElsewhere (pi_of m.store) r) ms
      → IsAway ms r.pi
  tuned_away [] r elsewhere = tt
  tuned_away (m ∷ ms) r elsewhere = (elsewhere.0.tuned, tuned_away ms r elsewhere.1)

  held_away : (ms : List Moment) (r : Receiver) (f : HeardGroup) → r.held ≡ Some f
      → AllByRecursion (λ m. IsElsewhere (pi_of m.store) r) ms → IsAway ms f.block1
  held_away [] r f is elsewhere = tt
  held_away (m ∷ ms) r f is elsewhere = (
    subst (λ (o : Option HeardGroup). IfSome o (λ g. is_another g.block1 (Some (pi_of m.store)) ≡ true)) is
        elsewhere.0.holds,
    held_away ms r f is elsewhere.1,
  )

  pub elsewhere_before : (ms : List Moment) (c : Carousel) (r : Receiver) → AllByRecursion Ok ms → K c
      → AllByRecursion (λ m. IsElsewhere (pi_of m.store) r) ms
      → ((after_damage ms c r).pi ≡ r.pi) ⊎ Shows (after_damage ms c r)
  elsewhere_before ms c r ok k elsewhere =
      away ms c r ok k (tuned_away ms r elsewhere) (by r.held refl)
    where
      by : (o : Option HeardGroup) → r.held ≡ o → IsHeld ms c r.held
      by None none = nothing_held ms c r none
      by (Some f) is = subst (IsHeld ms c) (sym is) (inr (held_away ms r f is elsewhere))
