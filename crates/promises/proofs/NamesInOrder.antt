-- A receiver shows no mix of names, whatever changes and whatever is lost.
use Rattle.std.proofs.Common.{◌≡◌, ◌⊎◌, ℕ, ◌+◌, ◌*◌, List, [], ◌∷◌, ◌++◌, length, take, Option, Some, refl, ap}
use Rattle.std.proofs.Common.{sym, ◌∙◌, subst, arith, inl, inr, if◌then◌else◌, ◌==◌}
use Rattle.std.specs.Prelude.{IfSome, Contains}
use Rattle.std.specs.List.{AllByRecursion}
use Rattle.std.proofs.lemmas.List.{take_all, length-take}
use Rattle.std.proofs.lemmas.List.Elements.{All-contains_itself, recursion_from_All}
use Rattle.std.proofs.lemmas.Bool.{cases_eq, eq-eqb, ne_eqb}
use Rattle.rds_groups.specs.Groups.{blocks}
use Rattle.rds_store.specs.Value.{Store, ServiceData}
use Rattle.rds_groups.specs.Heard.{came}
use Rattle.rds_groups.specs.Shown.{Receiver, hears_own, joined, shown_with, switched_on}
use Rattle.rds_groups.specs.Damage.{GroupDamage, IsGroupDamage, damaged}
use Rattle.rds_groups.specs.ReceiverLaws.{IsRightOrMissing}
use Rattle.carousel.specs.Carousel.{Carousel}
use Rattle.carousel.specs.Texts.{line_up}
use Rattle.carousel.specs.Service.{main_service}
use Rattle.carousel.specs.Next.{name_next, name_group, send_name, next_group}
use Rattle.promises.specs.OnAir.{IsService, IsStore, Has, Moment}
use Rattle.promises.specs.AirLaws.{NoNameIsMixed, names_of}
use Rattle.promises.proofs.Words.{name_at, name_two, name_told, two_back, byte_at}
use Rattle.promises.proofs.Choice.{next_keeps_name}
use Rattle.promises.proofs.Steps.{part_step, name_below, on_air}
use Rattle.promises.proofs.Service.{two_more, going_on}
use Rattle.promises.proofs.Retuning.{Kept, kept, elsewhere_before}

-- so many segments of a name
pub record IsFront (name : List ℕ) (next : ℕ) (coming : List ℕ) : Type 0 where
  pub front : coming ≡ take (2 * next) name
  pub eight : length name ≡ 8

abbrev pub IsComing : (name : List ℕ) (next : ℕ) (coming : List ℕ) → Type 0
IsComing name next coming = (coming ≡ []) ⊎ IsFront name next coming

half : (i : ℕ) → 2 * i ≡ 0 → i ≡ 0
half i h = omega arith

coming_after : (s : ServiceData) (c : Carousel) (coming : List ℕ) → IsService s → IsComing c.name c.name_segment coming
    → IsComing s.ps (name_next s c + 1) (joined (name_next s c) coming (name_two s (name_next s c)))
coming_after s c coming ok before =
    let i = name_next s c in
    let segment = name_two s i in
    let more = two_more s.ps i ok.eight (name_below s c) in
    let later = if length coming == 2 * i then coming ++ segment else [] in
    elim (cases_eq i 0) [
      | inl first ↦
          let e : joined i coming segment ≡ segment = ap (λ b. if b then segment else later) (eq-eqb i 0 first) in
          let z : 2 * i ≡ 0 = omega arith in
          let f : segment ≡ take (2 * (i + 1)) s.ps = sym (ap (λ n. take n s.ps ++ segment) z) ∙ more in
          inr (record { front = e ∙ f; eight = ok.eight })
      | inr not_first ↦
          let e : joined i coming segment ≡ later = ap (λ b. if b then segment else later) (ne_eqb i 0 not_first) in
          elim (cases_eq (length coming) (2 * i)) [
            | inr apart ↦ inl (e ∙ ap (λ b. if b then coming ++ segment else []) (ne_eqb (length coming) (2 * i) apart))
            | inl fits ↦
                let f : joined i coming segment ≡ coming ++ segment =
                e ∙ ap (λ b. if b then coming ++ segment else []) (eq-eqb (length coming) (2 * i) fits) in
                let g = going_on s c not_first in
                elim before [
                  | inl empty ↦ absurd (not_first (half i (sym (sym (ap length empty) ∙ fits))))
                  | inr front ↦
                      let h : coming ≡ take (2 * i) s.ps =
                      front.front ∙ ap (λ n. take (2 * n) c.name) g.1 ∙ ap (take (2 * i)) g.0 in
                      inr (record { front = f ∙ ap (λ xs. xs ++ segment) h ∙ more; eight = ok.eight })
                ]
          ]
    ]

-- what came whole is the name
whole : (name : List ℕ) (next : ℕ) (coming : List ℕ) → IsComing name next coming → length coming ≡ 8 → coming ≡ name
whole name next coming (inl empty) eight = absurd (let e : 0 ≡ length coming = sym (ap length empty) in omega arith)
whole name next coming (inr front) eight =
    let e = ap length front.front in
    front.front ∙ take_all (2 * next) name (let h = length-take (2 * next) name in let k = front.eight in omega arith)

-- what a receiver has heard of names, where those that are shown are to be so
pub record HeardNames (P : List ℕ → Type 0) (c : Carousel) (r : Receiver) : Type 0 where
  pub coming : IsComing c.name c.name_segment r.coming
  pub shown : IfSome r.name P

shown_after : (P : List ℕ → Type 0) (name : List ℕ) (next : ℕ) (coming : List ℕ) (r : Receiver)
    → IsComing name next coming → P name
    → IfSome r.name P → IfSome (shown_with coming r).name P
shown_after P name next coming r is_coming held before = elim (cases_eq (length coming) 8) [
  | inl eight ↦ subst (λ (o : Option (List ℕ)). IfSome o P)
      (sym (ap (λ b. if b then Some coming else r.name) (eq-eqb (length coming) 8 eight)))
      (subst P (sym (whole name next coming is_coming eight)) held)
  | inr not_yet ↦ subst (λ (o : Option (List ℕ)). IfSome o P)
      (sym (ap (λ b. if b then Some coming else r.name) (ne_eqb (length coming) 8 not_yet))) before
]

-- a segment of the name, or one whose characters are missing
pub names_by_name : (P : List ℕ → Type 0) (s : ServiceData) (c : Carousel) → IsService s → P s.ps → (block4 : Option ℕ)
    → IsRightOrMissing (name_group s (name_next s c)).block4 block4 → (q : Receiver) → HeardNames P c q
    → HeardNames P (send_name s c).1 (name_told s (name_next s c) block4 q)
names_by_name P s c ok held block4 (inr missing) q good =
    subst (λ (o : Option ℕ). HeardNames P (send_name s c).1 (name_told s (name_next s c) o q)) (sym missing)
    (record { coming = inl refl; shown = good.shown })
names_by_name P s c ok held block4 (inl right) q good =
    let i = name_next s c in
    let is_coming = coming_after s c q.coming ok good.coming in
    let two = two_back (name_at s (2 * i + 0)) (name_at s (2 * i + 1))
    (byte_at s.ps 0 (2 * i + 1) (omega arith) ok.are_bytes) in
    subst (λ (o : Option ℕ). HeardNames P (send_name s c).1 (name_told s i o q)) (sym right)
    (subst (λ (xs : List ℕ). HeardNames P (send_name s c).1 (shown_with (joined i q.coming xs)
    (record q { tp = Some s.tp; pty = Some s.pty; ta = Some s.ta; music = Some s.music }))) (sym two)
    (record {
      coming = is_coming;
      shown = shown_after P s.ps (i + 1) (joined i q.coming (name_two s i)) q is_coming held
          good.shown;
    }))

-- a group of the text leaves them alone
pub kept_coming : (s : ServiceData) (c : Carousel) (coming : List ℕ) → IsComing c.name c.name_segment coming
    → IsComing (on_air s c).name (on_air s c).name_segment coming
kept_coming s c coming before =
    let keeps = next_keeps_name (line_up s.texts) c in
    subst (λ (xs : List ℕ). IsComing xs (on_air s c).name_segment coming) (sym keeps.name)
    (subst (λ (n : ℕ). IsComing c.name n coming) (sym keeps.name_segment) before)

names_step : (P : List ℕ → Type 0) (s : ServiceData) (v : Store) (d : GroupDamage) (c : Carousel) (r : Receiver)
    → IsService s → Has s v
    → IsGroupDamage d → P s.ps → HeardNames P c r → HeardNames P (next_group v c).1
    (hears_own (came (damaged d (blocks (next_group v c).0))) r)
names_step P s v d c r ok has damage held good =
    part_step s v d c r (HeardNames P c) (HeardNames P) ok has damage good
    (λ q before. record { coming = before.coming; shown = before.shown })
    (λ e q before. record { coming = inl refl; shown = before.shown })
    (names_by_name P s c ok held)
    (λ block3 block4 h3 h4 q before. record { coming = kept_coming s c q.coming before.coming; shown = before.shown })
    (λ q before. record { coming = before.coming; shown = before.shown })

abbrev AreNames : (P : List ℕ → Type 0) → Moment → Type 0
AreNames P m = IsStore m.store × IsGroupDamage m.damage × P (main_service m.store).ps

names_kept : (P : List ℕ → Type 0)
    → Kept (AreNames P) (λ c. Unit {0}) (HeardNames P) (λ r. IfSome r.name P)
names_kept P = record {
  store = λ m ok. ok.0;
  damage = λ m ok. ok.1;
  moves = λ m c ok k. tt;
  starts = λ c k. record { coming = inl refl; shown = tt };
  own = λ m c r ok k good.
      names_step P (main_service m.store) m.store m.damage c r ok.0.service
      (record { same = refl; first = ok.0.first }) ok.1 ok.2 good;
  misses = λ m c r ok k good. record { coming = inl refl; shown = good.shown };
  holds = λ c r o good. record { coming = good.coming; shown = good.shown };
  shows = λ c r good. good.shown;
}

are_names : (P : List ℕ → Type 0) (ms : List Moment) → AllByRecursion (λ m. IsStore m.store) ms
    → AllByRecursion (λ m. IsGroupDamage m.damage) ms → AllByRecursion P (names_of ms)
    → AllByRecursion (AreNames P) ms
are_names P [] ok damage held = tt
are_names P (m ∷ ms) ok damage held = ((ok.0, damage.0, held.0), are_names P ms ok.1 damage.1 held.1)

held_names : (ms : List Moment) → AllByRecursion (λ m. IsStore m.store) ms
    → AllByRecursion (λ m. IsGroupDamage m.damage) ms → AllByRecursion (AreNames (Contains (names_of ms))) ms
held_names ms ok damage =
    let names = names_of ms in
    are_names (Contains names) ms ok damage (recursion_from_All (Contains names) names (All-contains_itself names))

pub no_name_is_mixed : NoNameIsMixed
no_name_is_mixed = record {
  new = λ ms c ok damage.
      let P = Contains (names_of ms) in
      kept (AreNames P) (λ c. Unit {0}) (HeardNames P) (λ r. IfSome r.name P) (names_kept P) ms c switched_on
      (held_names ms ok damage) tt (record { coming = inl refl; shown = tt }) tt;
  tuned = λ ms c r ok damage elsewhere.
      let P = Contains (names_of ms) in
      elsewhere_before (AreNames P) (λ c. Unit {0}) (HeardNames P) (λ r. IfSome r.name P) (names_kept P) ms c r
      (held_names ms ok damage) tt elsewhere;
}
