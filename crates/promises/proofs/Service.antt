-- A service that stays is shown: all but its text.
use Rattle.std.proofs.Common.{◌≡◌, ◌≢◌, ◌⊎◌, ℕ, ◌+◌, ◌*◌, ◌<◌, ◌≤◌, true, false, List, [], ◌∷◌, ◌++◌, length, take}
use Rattle.std.proofs.Common.{get_or, Some, refl, ap, sym, ◌∙◌, subst, arith, ◌==◌, if◌then◌else◌, inl, inr}
use Rattle.std.proofs.Common.{append_assoc, slice_index}
use Rattle.std.specs.Prelude.{bytes_eq}
use Rattle.std.specs.List.{AllByRecursion}
use Rattle.std.proofs.lemmas.Bool.{cases_lt, cases_eq, cases_Bool, eq-eqb, ne_eqb}
use Rattle.std.proofs.lemmas.List.{take_more, take_all, length-take}
use Rattle.std.proofs.lemmas.Slice.Eq.{bytes_eq-Decides}
use Rattle.rds_groups.specs.Groups.{bit, blocks}
use Rattle.rds_store.specs.Value.{Store, ServiceData}
use Rattle.rds_groups.specs.Heard.{came}
use Rattle.rds_groups.specs.Shown.{Receiver, hears_own, joined}
use Rattle.carousel.specs.Carousel.{Carousel}
use Rattle.carousel.specs.Texts.{line_up}
use Rattle.carousel.specs.Next.{turn, name_next, send_name, send_text, next_group}
use Rattle.promises.specs.OnAir.{IsService, Has, HasFlags}
use Rattle.promises.specs.AirLaws.{Shows, ServiceIsShown, IsTuned, ServiceIsTuned, MusicIsTold, TrafficIsTold}
use Rattle.promises.proofs.Words.{bit_small, name_two}
use Rattle.promises.proofs.AirHearing.{named_now, texted_now}
use Rattle.promises.proofs.Choice.{next_keeps_name}
use Rattle.promises.proofs.Places.{far, far_below, nearer, turn_in, turn_over}
use Rattle.promises.proofs.Steps.{step_is, name_below, goes_on, comes, none, on_air, own_after}
use Rattle.promises.proofs.Tuning.{stores_have, pis_are, steady, service_steady}

-- ---- What every group tells, and what the name's groups tell.
tuned_brought : (s : ServiceData) → IsService s → (v : Store) → Has s v → (c : Carousel) (r : Receiver)
    → IsTuned s (hears_own (came (blocks (next_group v c).0)) r)
tuned_brought s ok v has c r =
    step_is s v c r (λ d q. IsTuned s q) ok has
    (λ h. record { pi = refl; tp = refl; pty = refl })
    (λ h. record { pi = refl; tp = refl; pty = refl })
    (λ h w. record { pi = refl; tp = refl; pty = refl })

tuned_after : (s : ServiceData) → IsService s → (vs : List Store) → AllByRecursion (Has s) vs → 1 ≤ length vs
    → (c : Carousel) (r : Receiver)
    → IsTuned s (own_after vs c r)
tuned_after s ok vs all enough c r =
    comes s (λ d q. IsTuned s q) (λ d. 0) (λ v. 0)
    (λ v has d q good. tuned_brought s ok v has d q) (λ v has d q. inl (tuned_brought s ok v has d q))
    vs all c r (inr (let e = none vs in omega arith))

record SwitchesAre (s : ServiceData) (r : Receiver) : Type 0 where
  ta : r.ta ≡ Some s.ta
  music : r.music ≡ Some s.music

switches_kept : (s : ServiceData) → IsService s → (v : Store) → Has s v → (c : Carousel) (r : Receiver)
    → SwitchesAre s r
    → SwitchesAre s (hears_own (came (blocks (next_group v c).0)) r)
switches_kept s ok v has c r good =
    step_is s v c r (λ d q. SwitchesAre s q) ok has
    (λ h. record { ta = refl; music = refl })
    (λ h. record { ta = good.ta; music = good.music })
    (λ h w. record { ta = good.ta; music = good.music })

switches_brought : (s : ServiceData) → IsService s → (v : Store) → Has s v → (c : Carousel) (r : Receiver)
    → SwitchesAre s (hears_own (came (blocks (next_group v c).0)) r)
    ⊎ (bit (next_group v c).1.is_other < bit c.is_other + 0)
switches_brought s ok v has c r =
    step_is s v c r (λ d q. SwitchesAre s q ⊎ (bit d.is_other < bit c.is_other + 0)) ok has
    (λ h. inl (record { ta = refl; music = refl }))
    (λ h. inr (omega (arith, ap bit h)))
    (λ h w. inr (omega (arith, ap bit h)))

switches_after : (s : ServiceData) → IsService s → (vs : List Store) → AllByRecursion (Has s) vs → 2 ≤ length vs
    → (c : Carousel) (r : Receiver)
    → SwitchesAre s (own_after vs c r)
switches_after s ok vs all enough c r =
    let b = bit_small c.is_other in
    let e = none vs in
    comes s (λ d q. SwitchesAre s q) (λ d. bit d.is_other) (λ v. 0) (switches_kept s ok) (switches_brought s ok) vs all
    c r (inr (omega arith))

pub service_is_tuned : ServiceIsTuned
service_is_tuned s vs c r ok all enough =
    let is = steady s.pi vs c r (stores_have s ok vs all) (pis_are s vs all) enough in
    subst (IsTuned s) (sym is.1) (tuned_after s ok vs all (omega arith) c is.0)

-- where no 15B goes out between either
pub all_have : (s : ServiceData) (vs : List Store) → AllByRecursion (HasFlags s) vs → AllByRecursion (Has s) vs
all_have s [] flags = flags
all_have s (v ∷ vs) flags = (flags.0.has, all_have s vs flags.1)

pub music_is_told : MusicIsTold
music_is_told s vs c r ok flags enough =
    let all = all_have s vs flags in
    let is = service_steady s ok vs all enough c r in
    ap (λ (q : Receiver). q.music) is.1 ∙ (switches_after s ok vs all enough c is.0).music

pub traffic_is_told : TrafficIsTold
traffic_is_told s vs c r ok flags enough =
    let all = all_have s vs flags in
    let is = service_steady s ok vs all enough c r in
    ap (λ (q : Receiver). q.ta) is.1 ∙ (switches_after s ok vs all enough c is.0).ta

-- ---- The name.
-- one more segment of it
pub two_more : (xs : List ℕ) (i : ℕ) → length xs ≡ 8 → i < 4
    → take (2 * i) xs ++ (slice_index xs (2 * i + 0) ∷ slice_index xs (2 * i + 1) ∷ []) ≡ take (2 * (i + 1)) xs
two_more xs i eight h =
    let a : take (2 * i + 1) xs ≡ take (2 * i) xs ++ get_or xs (2 * i) 0 ∷ [] = take_more xs (2 * i) 0 (omega arith) in
    let b : take (2 * i + 1 + 1) xs ≡ take (2 * i + 1) xs ++ get_or xs (2 * i + 1) 0 ∷ [] =
    take_more xs (2 * i + 1) 0 (omega arith) in
    let e : 2 * i ≡ 2 * i + 0 = omega arith in
    let f : 2 * (i + 1) ≡ 2 * i + 1 + 1 = omega arith in
    sym (ap (λ n. take n xs) f ∙ b ∙ ap (λ ys. ys ++ get_or xs (2 * i + 1) 0 ∷ []) a
    ∙ append_assoc (take (2 * i) xs) (get_or xs (2 * i) 0 ∷ []) (get_or xs (2 * i + 1) 0 ∷ [])
    ∙ ap (λ k. take (2 * i) xs ++ (get_or xs k 0 ∷ get_or xs (2 * i + 1) 0 ∷ [])) e)

-- a segment that is not the first goes on with the name that went out
pub going_on : (s : ServiceData) (c : Carousel) → name_next s c ≢ 0 → (c.name ≡ s.ps) × (c.name_segment ≡ name_next s c)
going_on s c later = elim (cases_Bool (bytes_eq c.name s.ps)) [
  | inl equal ↦
      let e : name_next s c ≡ turn 4 c.name_segment = ap (λ b. if b then turn 4 c.name_segment else 0) equal in (
        (bytes_eq-Decides c.name s.ps).0 equal,
        elim (cases_lt c.name_segment 4) [
          | inl few ↦ sym (e ∙ turn_in 4 c.name_segment few)
          | inr over ↦ absurd (later (e ∙ turn_over 4 c.name_segment over))
        ],
      )
  | inr unlike ↦ absurd (later (ap (λ b. if b then turn 4 c.name_segment else 0) unlike))
]

-- a pass over the name is under way
record IsInPass (s : ServiceData) (c : Carousel) (r : Receiver) : Type 0 where
  name : c.name ≡ s.ps
  front : r.coming ≡ take (2 * c.name_segment) s.ps

-- a segment that is the first, or goes on with those before it
one_more : (s : ServiceData) (i : ℕ) (coming : List ℕ) → IsService s → i < 4 → (i ≡ 0) ⊎ (coming ≡ take (2 * i) s.ps)
    → joined i coming (name_two s i) ≡ take (2 * (i + 1)) s.ps
one_more s i coming ok h before =
    let segment = name_two s i in
    let more = two_more s.ps i ok.eight h in
    let later = if length coming == 2 * i then coming ++ segment else [] in
    elim (cases_eq i 0) [
      | inl first ↦
          let z : 2 * i ≡ 0 = omega arith in
          ap (λ b. if b then segment else later) (eq-eqb i 0 first) ∙ sym (ap (λ n. take n s.ps ++ segment) z) ∙ more
      | inr not_first ↦ elim before [
        | inl first ↦ absurd (not_first first)
        | inr front ↦
            let e : length coming ≡ 2 * i = ap length front ∙ length-take (2 * i) s.ps
            ∙ (let k = ok.eight in omega arith) in
            ap (λ b. if b then segment else later) (ne_eqb i 0 not_first)
            ∙ ap (λ b. if b then coming ++ segment else []) (eq-eqb (length coming) (2 * i) e)
            ∙ ap (λ xs. xs ++ segment) front ∙ more
      ]
    ]

-- after a segment of the name, if the pass was under way or begins
pass_more : (s : ServiceData) (c : Carousel) (r : Receiver) → IsService s → (name_next s c ≡ 0) ⊎ IsInPass s c r
    → IsInPass s (send_name s c).1 (named_now s (name_next s c) r)
pass_more s c r ok before =
    let i = name_next s c in
    let from : (i ≡ 0) ⊎ (r.coming ≡ take (2 * i) s.ps) = elim before [
      | inl first ↦ inl first
      | inr pass ↦ elim (cases_eq i 0) [
        | inl first ↦ inl first
        | inr later ↦ inr (pass.front ∙ ap (λ n. take (2 * n) s.ps) (going_on s c later).1)
      ]
    ] in
    record { name = refl; front = one_more s i r.coming ok (name_below s c) from }

-- a group of the text leaves the name alone
pass_kept : (s : ServiceData) (c : Carousel) (r : Receiver) → IsInPass s c r
    → IsInPass s (send_text s c).1 (texted_now s (on_air s c) r)
pass_kept s c r pass =
    let keeps = next_keeps_name (line_up s.texts) c in
    record { name = keeps.name ∙ pass.name; front = pass.front ∙ ap (λ n. take (2 * n) s.ps) (sym keeps.name_segment) }

pass_stays : (s : ServiceData) → IsService s → (v : Store) → Has s v → (c : Carousel) (r : Receiver) → IsInPass s c r
    → IsInPass s (next_group v c).1 (hears_own (came (blocks (next_group v c).0)) r)
pass_stays s ok v has c r pass =
    step_is s v c r (IsInPass s) ok has
    (λ h. pass_more s c r ok (inr pass))
    (λ h. pass_kept s c r pass)
    (λ h w. record { name = pass.name; front = pass.front })

-- how long a segment of the name waits
wait_for : ServiceData → (segment : ℕ) → Carousel → ℕ
wait_for s i c = 2 * far 4 i (name_next s c) + bit c.is_other

wait_bound : (s : ServiceData) (i : ℕ) → i < 4 → (c : Carousel) → wait_for s i c < 8
unfolding wait_for
wait_bound s i h c =
    let a = far_below 4 i (name_next s c) h (name_below s c) in let b = bit_small c.is_other in omega arith

name_nearer : (s : ServiceData) (i : ℕ) (c : Carousel) → i < 4 → name_next s c ≢ i
    → wait_for s i (send_name s c).1 < wait_for s i c
unfolding wait_for
name_nearer s i c h there =
    omega (arith, nearer 4 i (name_next s c) (name_below s c) h there, ap (far 4 i) (goes_on s c), bit_small c.is_other)

text_nearer : (s : ServiceData) (i : ℕ) (c : Carousel) → c.is_other ≡ true
    → wait_for s i (send_text s c).1 < wait_for s i c
unfolding wait_for
text_nearer s i c h =
    let keeps = next_keeps_name (line_up s.texts) c in
    let same : name_next s (send_text s c).1 ≡ name_next s c =
    ap (λ (xs : List ℕ). if bytes_eq xs s.ps then turn 4 (on_air s c).name_segment else 0) keeps.name
    ∙ ap (λ (n : ℕ). if bytes_eq c.name s.ps then turn 4 n else 0) keeps.name_segment in
    omega (arith, ap bit h, ap (far 4 i) same)

free_nearer : (s : ServiceData) (i : ℕ) (c : Carousel) → c.is_other ≡ true
    → wait_for s i (record c { is_other = false }) < wait_for s i c
unfolding wait_for
free_nearer s i c h = omega (arith, ap bit h)

pass_brought : (s : ServiceData) → IsService s → (v : Store) → Has s v → (c : Carousel) (r : Receiver)
    → IsInPass s (next_group v c).1 (hears_own (came (blocks (next_group v c).0)) r)
    ⊎ (wait_for s 0 (next_group v c).1 < wait_for s 0 c)
pass_brought s ok v has c r =
    step_is s v c r (λ d q. IsInPass s d q ⊎ (wait_for s 0 d < wait_for s 0 c)) ok has
    (λ h. elim (cases_eq (name_next s c) 0) [
      | inl first ↦ inl (pass_more s c r ok (inl first))
      | inr later ↦ inr (name_nearer s 0 c (omega arith) later)
    ])
    (λ h. inr (text_nearer s 0 c h))
    (λ h w. inr (free_nearer s 0 c h))

-- the name is shown at its last segment
shown_by : (s : ServiceData) (c : Carousel) (r : Receiver) → IsService s → IsInPass s c r
    → (name_next s c ≡ 3) ⊎ (r.name ≡ Some s.ps)
    → (named_now s (name_next s c) r).name ≡ Some s.ps
shown_by s c r ok pass before =
    let i = name_next s c in
    let coming = joined i r.coming (name_two s i) in
    let front : coming ≡ take (2 * (i + 1)) s.ps = (pass_more s c r ok (inr pass)).front in
    let few : length coming ≡ 2 * (i + 1) =
    ap length front ∙ length-take (2 * (i + 1)) s.ps ∙ (let k = ok.eight in let h = name_below s c in omega arith) in
    elim (cases_eq (length coming) 8) [
      | inl eight ↦
          ap (λ b. if b then Some coming else r.name) (eq-eqb (length coming) 8 eight)
          ∙ ap (λ (xs : List ℕ). Some xs) (front ∙ take_all (2 * (i + 1)) s.ps (let k = ok.eight in omega arith))
      | inr short ↦ ap (λ b. if b then Some coming else r.name) (ne_eqb (length coming) 8 short) ∙ elim before [
        | inl last ↦ absurd (short (omega arith))
        | inr old ↦ old
      ]
    ]

shown_stays : (s : ServiceData) → IsService s → (v : Store) → Has s v → (c : Carousel) (r : Receiver) → IsInPass s c r
    → r.name ≡ Some s.ps
    → (hears_own (came (blocks (next_group v c).0)) r).name ≡ Some s.ps
shown_stays s ok v has c r pass old =
    step_is s v c r (λ d q. q.name ≡ Some s.ps) ok has (λ h. shown_by s c r ok pass (inr old)) (λ h. old) (λ h w. old)

shown_brought : (s : ServiceData) → IsService s → (v : Store) → Has s v → (c : Carousel) (r : Receiver) → IsInPass s c r
    → ((hears_own (came (blocks (next_group v c).0)) r).name ≡ Some s.ps)
    ⊎ (wait_for s 3 (next_group v c).1 < wait_for s 3 c)
shown_brought s ok v has c r pass =
    step_is s v c r (λ d q. (q.name ≡ Some s.ps) ⊎ (wait_for s 3 d < wait_for s 3 c)) ok has
    (λ h. elim (cases_eq (name_next s c) 3) [
      | inl last ↦ inl (shown_by s c r ok pass (inl last))
      | inr other ↦ inr (name_nearer s 3 c (omega arith) other)
    ])
    (λ h. inr (text_nearer s 3 c h))
    (λ h w. inr (free_nearer s 3 c h))

-- how far a name has come: shown; under way, and soon at its end; or soon to begin
data Stage (s : ServiceData) (c : Carousel) (r : Receiver) (groups : ℕ) : Type 0 where
  Shown : IsInPass s c r → r.name ≡ Some s.ps → Stage s c r groups
  UnderWay : IsInPass s c r → wait_for s 3 c < groups → Stage s c r groups
  ToBegin : wait_for s 0 c + 8 < groups → Stage s c r groups

name_comes : (s : ServiceData) → IsService s → (vs : List Store) → AllByRecursion (Has s) vs
    → (c : Carousel) (r : Receiver)
    → Stage s c r (length vs) → (own_after vs c r).name ≡ Some s.ps
name_comes s ok [] all c r (Shown pass old) = old
name_comes s ok [] all c r (UnderWay pass soon) = absurd (omega arith)
name_comes s ok [] all c r (ToBegin soon) = absurd (omega arith)
name_comes s ok (v ∷ vs) all c r (Shown pass old) =
    name_comes s ok vs all.1 (next_group v c).1 (hears_own (came (blocks (next_group v c).0)) r)
    (Shown (pass_stays s ok v all.0 c r pass) (shown_stays s ok v all.0 c r pass old))
name_comes s ok (v ∷ vs) all c r (UnderWay pass soon) =
    let stays = pass_stays s ok v all.0 c r pass in
    name_comes s ok vs all.1 (next_group v c).1 (hears_own (came (blocks (next_group v c).0)) r)
    (elim (shown_brought s ok v all.0 c r pass) [
      | inl shown ↦ Shown stays shown
      | inr less ↦ UnderWay stays (omega arith)
    ])
name_comes s ok (v ∷ vs) all c r (ToBegin soon) =
    name_comes s ok vs all.1 (next_group v c).1 (hears_own (came (blocks (next_group v c).0)) r)
    (elim (pass_brought s ok v all.0 c r) [
      | inl pass ↦ UnderWay pass (let b = wait_bound s 3 (omega arith) (next_group v c).1 in omega arith)
      | inr less ↦ ToBegin (omega arith)
    ])

all_shown : (s : ServiceData) → IsService s → (vs : List Store) → AllByRecursion (Has s) vs → 16 ≤ length vs
    → (c : Carousel) (r : Receiver) → Shows s (own_after vs c r)
all_shown s ok vs all enough c r =
    let tuned = tuned_after s ok vs all (omega arith) c r in
    let switches = switches_after s ok vs all (omega arith) c r in
    record {
      pi = tuned.pi;
      tp = tuned.tp;
      pty = tuned.pty;
      ta = switches.ta;
      music = switches.music;
      name = name_comes s ok vs all c r (ToBegin (let b = wait_bound s 0 (omega arith) c in omega arith));
    }

pub service_is_shown : ServiceIsShown
service_is_shown s vs c r ok flags enough =
    let all = all_have s vs flags in
    let is = service_steady s ok vs all (omega arith) c r in
    subst (Shows s) (sym is.1) (all_shown s ok vs all enough c is.0)
