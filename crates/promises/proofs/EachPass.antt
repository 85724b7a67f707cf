-- At the end of each pass over a text it is shown.
use Rattle.std.proofs.Common.{◌≡◌, ◌⊎◌, ℕ, ◌+◌, ◌*◌, ◌/◌, ◌<◌, ◌≤◌, false, not, List, [], ◌∷◌, length, Option, Some}
use Rattle.std.proofs.Common.{refl, ap, sym, ◌∙◌, arith, inl, inr}
use Rattle.std.specs.List.{AllByRecursion}
use Rattle.std.proofs.lemmas.Bool.{cases_eq}
use Rattle.rds_groups.specs.Groups.{bit, blocks}
use Rattle.rds_store.specs.Value.{Store, ServiceData}
use Rattle.rds_groups.specs.Heard.{came}
use Rattle.rds_groups.specs.Shown.{Receiver, hears_own, text_shown}
use Rattle.carousel.specs.Carousel.{Carousel}
use Rattle.carousel.specs.Texts.{line_up, segment_count}
use Rattle.carousel.specs.Service.{main_service}
use Rattle.carousel.specs.Next.{sent, send_text, next_group}
use Rattle.promises.specs.OnAir.{IsService, IsStore, carousel_after}
use Rattle.promises.specs.AirLaws.{EachPassIsShown, waiting, up_to_return}
use Rattle.promises.proofs.AirHearing.{texted_now, text_comes, text_stays, left_same}
use Rattle.promises.proofs.Choice.{any_choice, any_next}
use Rattle.promises.proofs.Steps.{step_is, on_air, fine, own_after}
use Rattle.promises.proofs.Tuning.{steady}
use Rattle.promises.proofs.Words.{bit_small}
use Rattle.promises.proofs.AirLines.{text_is_up_to_return}

-- the segments of the pass that are over were heard
record IsHeard (c : Carousel) (r : Receiver) : Type 0 where
  flag : 0 < c.text_segment → r.flag ≡ c.flag
  long : 0 < c.text_segment → r.is_short ≡ false
  few : 0 < c.text_segment → length c.text ≤ 64
  at : (p : ℕ) → p / 4 < c.text_segment → r.text p ≡ Some (sent c.text p)

-- a pass begins, or goes on
begins_or_goes_on : (s : ServiceData) (c : Carousel) → ((on_air s c).text_segment ≡ 0) ⊎ (on_air s c ≡ c)
begins_or_goes_on s c =
    let either = λ (d : Carousel). (d.text_segment ≡ 0) ⊎ (d ≡ c) in
    any_next either (line_up s.texts) c (λ some. inl refl)
    (λ none. any_choice either (line_up s.texts) c (λ place. inl refl) (λ t e is within. inr refl)
    (λ t e is passes. inl refl))

segment_heard : (s : ServiceData) (c : Carousel) (r : Receiver) → IsService s
    → IsHeard c r ⊎ (c.text_segment ≡ segment_count c.text) → IsHeard (send_text s c).1 (texted_now s (on_air s c) r)
segment_heard s c r ok before =
    let d = on_air s c in
    let f = fine s c ok in
    record {
      flag = λ more. refl;
      long = λ more. refl;
      few = λ more. f.short;
      at = λ p over. elim (cases_eq (p / 4) d.text_segment) [
        | inl here ↦ text_comes s d p r f.are_bytes here
        | inr there ↦ elim (begins_or_goes_on s c) [
          | inl first ↦ absurd (there (omega arith))
          | inr on ↦
              let same = ap (λ (x : Carousel). x.text_segment) on in
              let some : 0 < c.text_segment = omega arith in
              elim before [
                | inr ended ↦
                    let all = ap (λ (x : Carousel). segment_count x.text) on in
                    let within = f.within in absurd (omega arith)
                | inl heard ↦
                    text_stays s d (Some _) (Some _) p r there
                    ∙ ap (λ (h : ℕ → Option ℕ). h p) (left_same d.flag r
                    (heard.flag some ∙ sym (ap (λ (x : Carousel). x.flag) on)) (heard.long some))
                    ∙ heard.at p (omega arith)
                    ∙ ap (λ (x : Carousel). Some (sent x.text p)) (sym on)
              ]
        ]
      ];
    }

heard_step : (v : Store) (c : Carousel) (r : Receiver) → IsStore v → IsHeard c r
    → IsHeard (next_group v c).1 (hears_own (came (blocks (next_group v c).0)) r)
heard_step v c r ok heard =
    let s = main_service v in
    step_is s v c r IsHeard ok.service (record { same = refl; first = ok.first })
    (λ h. record { flag = heard.flag; long = heard.long; few = heard.few; at = heard.at })
    (λ h. segment_heard s c r ok.service (inl heard))
    (λ h w. record { flag = heard.flag; long = heard.long; few = heard.few; at = heard.at })

heard_after : (vs : List Store) (c : Carousel) (r : Receiver) → AllByRecursion IsStore vs → IsHeard c r
    → IsHeard (carousel_after vs c) (own_after vs c r)
heard_after [] c r ok heard = heard
heard_after (v ∷ vs) c r ok heard =
    heard_after vs (next_group v c).1 (hears_own (came (blocks (next_group v c).0)) r) ok.1
    (heard_step v c r ok.0 heard)

-- a pass is over, and the next one begins among so many groups
abbrev IsToBegin : List Store → Carousel → Type 0
IsToBegin vs c = (c.text_segment ≡ segment_count c.text) × (bit (not c.is_other) + 2 * waiting vs < length vs)

begun_step : (v : Store) (vs : List Store) (c : Carousel) (r : Receiver) → IsStore v → IsToBegin (v ∷ vs) c
    → IsHeard (next_group v c).1 (hears_own (came (blocks (next_group v c).0)) r) ⊎ IsToBegin vs (next_group v c).1
begun_step v vs c r ok begins =
    let s = main_service v in
    step_is s v c r (λ d q. IsHeard d q ⊎ IsToBegin vs d) ok.service (record { same = refl; first = ok.first })
    (λ h. inr (begins.0, omega (arith, begins.1, ap (λ b. bit (not b)) h)))
    (λ h. inl (segment_heard s c r ok.service (inr begins.0)))
    (λ h w. inr (begins.0, omega (arith, begins.1, ap (λ b. bit (not b)) h, ap bit w)))

begun_after : (vs : List Store) (c : Carousel) (r : Receiver) → AllByRecursion IsStore vs
    → IsHeard c r ⊎ IsToBegin vs c → IsHeard (carousel_after vs c) (own_after vs c r)
begun_after vs c r ok (inl heard) = heard_after vs c r ok heard
begun_after [] c r ok (inr begins) = absurd (omega (arith, begins.1))
begun_after (v ∷ vs) c r ok (inr begins) =
    begun_after vs (next_group v c).1 (hears_own (came (blocks (next_group v c).0)) r) ok.1
    (begun_step v vs c r ok.0 begins)

shown_by_pass : (vs : List Store) (c : Carousel) (r : Receiver) → AllByRecursion IsStore vs
    → IsHeard c r ⊎ IsToBegin vs c → (carousel_after vs c).text_segment ≡ segment_count (carousel_after vs c).text
    → text_shown (own_after vs c r) ≡ Some (up_to_return (carousel_after vs c).text)
shown_by_pass vs c r ok before over =
    let last = carousel_after vs c in
    let heard = begun_after vs c r ok before in
    let some : 0 < last.text_segment = omega arith in
    text_is_up_to_return last.text (own_after vs c r) (heard.few some) (heard.long some)
    (λ p within few. heard.at p (omega (arith, heard.few some)))

pub each_pass_is_shown : EachPassIsShown
each_pass_is_shown pi vs c r ok pis begins enough over =
    let is = steady pi vs c r ok pis enough in
    ap text_shown is.1
    ∙ shown_by_pass vs c is.0 ok (elim begins [
      | inl first ↦ inl (record {
        flag = λ more. absurd (omega arith);
        long = λ more. absurd (omega arith);
        few = λ more. absurd (omega arith);
        at = λ p before. absurd (omega arith);
      })
      | inr ended ↦ inr (ended.0, (let b = bit_small (not c.is_other) in omega (arith, ended.1)))
    ]) over
