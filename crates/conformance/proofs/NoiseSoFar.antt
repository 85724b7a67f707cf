-- What stands in a segment, one byte after another.
use Rattle.std.proofs.Common.{◌≡◌, ◌≢◌, ◌<◌, ◌≤◌, ◌==◌, ◌||◌, ℕ, ◌+◌, Bool, List, [], ◌∷◌, ◌++◌, length, take, drop}
use Rattle.std.proofs.Common.{get_or, refl, ◌∙◌, ap, sym, add-one, arith, length-append, drop-cons, Option, Some, None}
use Rattle.std.specs.Prelude.{if◌then◌else◌, is_some}
use Rattle.std.specs.Option.{option_map}
use Rattle.std.proofs.Math.Seq.{take-suc}
use Rattle.std.proofs.Common.{inl, inr}
use Rattle.std.proofs.lemmas.Bool.{cases_eq, eq-eqb, ne_eqb}
use Rattle.std.proofs.lemmas.List.{take_all, drop_all}
use Rattle.uecp_frame.specs.Findings.{open_bytes}
use Rattle.uecp_frame.proofs.Public.{open_bytes-append_none, open_bytes-append_one, open_bytes-here, open_bytes-nil}
use Rattle.uecp_frame.proofs.Public.{open_bytes-other}
use Rattle.conformance.specs.Noise.{is_inside, outside_after, unended, noise}

-- ---- One byte more.

-- an FE opens a segment
opened : (s : List ℕ) (b : ℕ) → b ≡ 0xFE → open_bytes (s ++ b ∷ []) ≡ Some []
opened s b is = rw is (open_bytes-append_one s (0xFE ∷ []) refl ∙ open_bytes-here 0xFE [] refl refl)

-- an FF leaves none open
ended : (s : List ℕ) (b : ℕ) → b ≡ 0xFF → open_bytes (s ++ b ∷ []) ≡ None
ended s b is = rw is (open_bytes-append_one s (0xFF ∷ []) refl ∙ open_bytes-other 0xFF [] refl (omega arith))

-- another byte stands behind what was open
other : (s : List ℕ) (b : ℕ) → b ≢ 0xFE → b ≢ 0xFF
    → open_bytes (s ++ b ∷ []) ≡ option_map (λ x. x ++ b ∷ []) (open_bytes s)
other s b start end = open_bytes-append_none s (b ∷ []) (rw (ne_eqb b 0xFE start, ne_eqb b 0xFF end) refl)

-- what a byte counts, where so many are open before it
weight : (o : Option (List ℕ)) → (b : ℕ) → ℕ
weight o b = if is_some o || b == 0xFE then 0 else 1

weight_start : (o : Option (List ℕ)) (b : ℕ) → b ≡ 0xFE → weight o b ≡ 0
unfolding weight
weight_start None b is = rw (weight, eq-eqb b 0xFE is) refl
weight_start (Some x) b is = refl

weight_outside : (o : Option (List ℕ)) (b : ℕ) → unended o ≡ 0 → b ≢ 0xFE → weight o b ≡ 1
unfolding weight
weight_outside None b none start = rw (weight, ne_eqb b 0xFE start) refl
weight_outside (Some x) b none start = absurd (omega (arith, none))

weight_inside : (o : Option (List ℕ)) (b : ℕ) → unended o ≢ 0 → weight o b ≡ 0
unfolding weight
weight_inside None b some = absurd (some refl)
weight_inside (Some x) b some = refl

longer : (o : Option (List ℕ)) (b : ℕ) → unended o ≢ 0 → unended (option_map (λ x. x ++ b ∷ []) o) ≡ unended o + 1
longer None b some = absurd (some refl)
longer (Some x) b some = let more = length-append x (b ∷ []) in omega (arith, more)

none_yet : (o : Option (List ℕ)) (b : ℕ) → unended o ≡ 0 → unended (option_map (λ x. x ++ b ∷ []) o) ≡ 0
none_yet None b none = refl
none_yet (Some x) b none = absurd (omega (arith, none))

-- ---- So far.

-- those so far and those that follow are all; and so many are open
pub record NoiseSoFar (came : List ℕ) (at outside open_now : ℕ) : Type 0 where
  pub counted : outside + outside_after (take at came) (drop at came) ≡ outside_after [] came
  pub at_end : open_now ≡ unended (open_bytes (take at came))
  pub few : outside + open_now ≤ at

pub noise_first : (came : List ℕ) → NoiseSoFar came 0 0 0
noise_first came = record { counted = omega arith; at_end = ap unended (sym open_bytes-nil); few = omega arith }

-- the next byte
module _ (came : List ℕ) (at outside open_now b : ℕ) (within : at < length came) (is : b ≡ get_or came at 0)
    (so : NoiseSoFar came at outside open_now) where
  more_of : take (at + 1) came ≡ take at came ++ b ∷ []
  more_of = rw (add-one, is) (take-suc came at 0 within)

  rest_of : drop at came ≡ b ∷ drop (at + 1) came
  rest_of = rw (add-one, is) (drop-cons came at 0 within)

  counted_more : (outside + weight (open_bytes (take at came)) b)
      + outside_after (take (at + 1) came) (drop (at + 1) came)
      ≡ outside_after [] came
  unfolding weight
  counted_more =
      let first = ap (outside_after (take at came)) rest_of in
      let next = ap (λ t. outside_after t (drop (at + 1) came)) more_of in
      let all = so.counted in
      omega (arith, first, next, all)

  pub noise_start : b ≡ 0xFE → NoiseSoFar came (at + 1) outside 1
  noise_start start =
      let w = weight_start (open_bytes (take at came)) b start in
      let all = counted_more in
      let few = so.few in
      record {
        counted = omega (arith, w, all);
        at_end = sym (ap (λ t. unended (open_bytes t)) more_of ∙ ap unended (opened (take at came) b start));
        few = omega (arith, few);
      }

  pub noise_outside : open_now ≡ 0 → b ≢ 0xFE → NoiseSoFar came (at + 1) (outside + 1) open_now
  noise_outside none start =
      let last = so.at_end in
      let w = weight_outside (open_bytes (take at came)) b (sym last ∙ none) start in
      let all = counted_more in
      let few = so.few in
      record {
        counted = omega (arith, w, all);
        at_end = none ∙ sym (ap (λ t. unended (open_bytes t)) more_of ∙ still);
        few = omega (arith, few);
      }
    where
      still : unended (open_bytes (take at came ++ b ∷ [])) ≡ 0
      still = elim (cases_eq b 0xFF) [
        | inl end ↦ ap unended (ended (take at came) b end)
        | inr end ↦ ap unended (other (take at came) b start end)
            ∙ none_yet (open_bytes (take at came)) b (sym so.at_end ∙ none)
      ]

  pub noise_end : open_now ≢ 0 → b ≡ 0xFF → NoiseSoFar came (at + 1) outside 0
  noise_end some end =
      let last = so.at_end in
      let w = weight_inside (open_bytes (take at came)) b (λ e. some (last ∙ e)) in
      let all = counted_more in
      let few = so.few in
      record {
        counted = omega (arith, w, all);
        at_end = sym (ap (λ t. unended (open_bytes t)) more_of ∙ ap unended (ended (take at came) b end));
        few = omega (arith, few);
      }

  pub noise_inside : open_now ≢ 0 → b ≢ 0xFE → b ≢ 0xFF → NoiseSoFar came (at + 1) outside (open_now + 1)
  noise_inside some start end =
      let last = so.at_end in
      let some_here = λ (e : unended (open_bytes (take at came)) ≡ 0). some (last ∙ e) in
      let w = weight_inside (open_bytes (take at came)) b some_here in
      let all = counted_more in
      let few = so.few in
      record {
        counted = omega (arith, w, all);
        at_end = ap (λ n. n + 1) last ∙ sym (ap (λ t. unended (open_bytes t)) more_of
            ∙ ap unended (other (take at came) b start end) ∙ longer (open_bytes (take at came)) b some_here);
        few = omega (arith, few);
      }

pub noise_all : (came : List ℕ) (at outside open_now : ℕ) → NoiseSoFar came at outside open_now → length came ≤ at
    → outside + open_now ≡ noise came
unfolding noise
noise_all came at outside open_now so past =
    let all = so.counted in
    let last = so.at_end ∙ ap (λ t. unended (open_bytes t)) (take_all at came past) in
    let none = ap (outside_after (take at came)) (drop_all at came past) in
    omega (arith, all, last, none)
