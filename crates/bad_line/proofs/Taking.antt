-- Bytes that come in a direction.
use Rattle.std.proofs.Common.{◌≡◌, ◌<◌, ◌≤◌, ◌+◌, ◌-◌, ℕ, Bool, true, false, ◌||◌, List, [], ◌∷◌, ◌++◌, length, take}
use Rattle.std.proofs.Common.{drop}
use Rattle.std.proofs.Common.{refl, sym, ap, ◌∙◌, subst, arith, append_assoc, append-nil, Option, Some, None, IfSome}
use Rattle.std.specs.Prelude.{option_to_list}
use Rattle.std.specs.List.{list_any}
use Rattle.std.proofs.Math.Seq.{take-add}
use Rattle.std.proofs.lemmas.List.{length-drop, take_all}
use Rattle.std.proofs.lemmas.List.Folds.{list_any-append}
use Rattle.std.proofs.lemmas.Bool.{false≢true}
use Rattle.bad_line.specs.declared.rules.fate.Fate.{Fate}
use Rattle.bad_line.specs.Pieces.{IsHeld}
use Rattle.bad_line.specs.Crossing.{Cutting, Crosses}
use Rattle.bad_line.proofs.Parts.{in_parts_lem}
use Rattle.bad_line.proofs.Bytes.{nothing}
use Rattle.bad_line.specs.Passages.{Takes, BreaksAtLast, is_break}

-- No byte came.
pub takes_nothing : (cutting : Cutting) (waiting bytes : List ℕ) → IsHeld cutting.held
    → Takes (record { cutting = cutting; waiting = waiting; is_broken = false })
    (record { cutting = cutting; waiting = waiting; is_broken = false }) bytes 0
takes_nothing cutting waiting bytes is_held = record {
  out = [];
  fates = [];
  within = omega arith;
  crosses = nothing cutting cutting.held cutting.faults refl is_held;
  waits = sym (append-nil waiting);
  breaks = refl;
}

-- whether the connection breaks behind a segment, if there is one
abbrev pub breaks_behind : Option Fate → Bool
breaks_behind None = false
breaks_behind (Some fate) = is_break fate

breaks_then : (before : List Fate) (fate : Option Fate) (is_broken : Bool) → list_any is_break before ≡ false
    → is_broken ≡ breaks_behind fate → BreaksAtLast (before ++ option_to_list fate) is_broken
breaks_then before None true none is = absurd (false≢true (sym is))
breaks_then before None false none is = list_any-append is_break before [] ∙ ap (λ (x : Bool). x || false) none
breaks_then before (Some fate) true none is = (before, fate, refl, none, sym is)
breaks_then before (Some fate) false none is =
    list_any-append is_break before (fate ∷ []) ∙ ap (λ (x : Bool). x || (is_break fate || false)) none
    ∙ ap (λ (x : Bool). x || false) (sym is)

-- the bytes behind the first so many
pub rest_is : (bytes : List ℕ) (used : ℕ) → take (length bytes - used) (drop used bytes) ≡ drop used bytes
rest_is bytes used = take_all (length bytes - used) (drop used bytes) (omega (arith, length-drop used bytes))

-- More bytes came, where the connection holds.
pub takes_more : (a b : Cutting) (c : Cutting) (start middle after bytes : List ℕ) (used more : ℕ) (is_broken : Bool)
    (fate : Option Fate)
    → Takes (record { cutting = a; waiting = start; is_broken = false })
    (record { cutting = b; waiting = middle; is_broken = false }) bytes used
    → more ≤ length (take (length bytes - used) (drop used bytes)) → is_broken ≡ breaks_behind fate
    → (made : List ℕ) × (after ≡ middle ++ made) × Crosses b c
    (take more (take (length bytes - used) (drop used bytes))) made (option_to_list fate)
    → Takes (record { cutting = a; waiting = start; is_broken = false })
    (record { cutting = c; waiting = after; is_broken = is_broken }) bytes (used + more)
takes_more a b c start middle after bytes used more is_broken fate takes within breaks (made, after_is, crosses) =
    record {
      out = takes.out ++ made;
      fates = takes.fates ++ option_to_list fate;
      within = omega (arith, takes.within, within, ap length (rest_is bytes used), length-drop used bytes);
      crosses = subst (λ x. Crosses a c x (takes.out ++ made) (takes.fates ++ option_to_list fate))
          (sym (take-add used more bytes))
          (in_parts_lem a b c (take used bytes) (take more (drop used bytes)) takes.out made takes.fates
          (option_to_list fate) takes.crosses
          (subst (λ x. Crosses b c (take more x) made (option_to_list fate)) (rest_is bytes used) crosses));
      waits = after_is ∙ ap (λ (x : List ℕ). x ++ made) takes.waits ∙ append_assoc start takes.out made;
      breaks = breaks_then takes.fates fate is_broken takes.breaks breaks;
    }

-- the same where the connection holds
pub holding : (a b : Cutting) (start middle bytes : List ℕ) (used : ℕ) (is_broken : Bool) → is_broken ≡ false
    → Takes (record { cutting = a; waiting = start; is_broken = false })
    (record { cutting = b; waiting = middle; is_broken = is_broken }) bytes used
    → Takes (record { cutting = a; waiting = start; is_broken = false })
    (record { cutting = b; waiting = middle; is_broken = false }) bytes used
holding a b start middle bytes used is_broken holds takes =
    subst (λ broken. Takes (record { cutting = a; waiting = start; is_broken = false })
    (record { cutting = b; waiting = middle; is_broken = broken }) bytes used) holds takes

-- what came of a segment, if one ended, by what the result says
pub told : (b c : Cutting) (bytes middle after : List ℕ) (fate fate' : Option Fate) → fate ≡ fate'
    → (made : List ℕ) × (after ≡ middle ++ made) × Crosses b c bytes made (option_to_list fate)
    → (made : List ℕ) × (after ≡ middle ++ made) × Crosses b c bytes made (option_to_list fate')
told b c bytes middle after fate fate' same made =
    (made.0, made.1, subst (λ f. Crosses b c bytes made.0 (option_to_list f)) same made.2)

-- a segment that ended took a byte
pub some_used : (fate : Option Fate) (is : Fate) (used : ℕ) → fate ≡ Some is → IfSome fate (λ _. 0 < used) → 0 < used
some_used None is used same some = absurd (let e : None ≡ Some is = same in cc)
some_used (Some fate) is used same some = some
