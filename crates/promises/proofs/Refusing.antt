-- Whether a line was refused.
use Rattle.std.proofs.Common.{◌≡◌, ℕ, Bool, true, false, ◌||◌, List, [], ◌∷◌, refl, sym, ap, ◌∙◌}
use Rattle.std.proofs.Common.{inl, inr}
use Rattle.std.specs.Prelude.{Option}
use Rattle.std.specs.List.{list_all}
use Rattle.line_batches.specs.declared.intake.Input.{Input}
use Rattle.uecp_elements.specs.declared.code.Code.{Code}
use Rattle.line_batches.specs.declared.intake.Given.{Given}
use Rattle.line_batches.specs.Intake.{Intake, TakesLines, is_refusal, has_refused}
use Rattle.sending.specs.Run.{tally_status}
use Rattle.promises.specs.Taken.{ComesToEnd}
use Rattle.promises.specs.LiveTold.{was_applied, IsStatusOf}

or_assoc : (a b c : Bool) → ((a || b) || c) ≡ (a || (b || c))
or_assoc true b c = refl
or_assoc false b c = refl

or_false : (a : Bool) → (a || false) ≡ a
or_false true = refl
or_false false = refl

refused_lines : (input : Input) (lines : List (List ℕ × Given)) (x y : Intake) → TakesLines input lines x y
    → y.refused ≡ (x.refused || has_refused lines)
refused_lines input [] x y same = ap (λ (i : Intake). i.refused) same ∙ sym (or_false x.refused)
refused_lines input ((line, given) ∷ more) x y (w, one, rest) =
    refused_lines input more w y rest ∙ ap (λ r. r || has_refused more) one.refused
    ∙ or_assoc x.refused (is_refusal given) (has_refused more)

refused_ending : (input : Input) (strict : Bool) (lines : List (List ℕ × Given)) (x y : Intake)
    → ComesToEnd input strict lines x y → y.refused ≡ x.refused
refused_ending input strict lines x y (inl ((stays, next), none)) = ap (λ (i : Intake). i.refused) stays
refused_ending input strict lines x y (inr (is_strict, refused, same)) = ap (λ (i : Intake). i.refused) same

-- at the end of a run that began with none
pub refused_in_all : (input : Input) (strict : Bool) (lines : List (List ℕ × Given)) (x y z : Intake)
    → x.refused ≡ false → TakesLines input lines x y → ComesToEnd input strict lines y z
    → has_refused lines ≡ z.refused
refused_in_all input strict lines x y z none takes ends =
    sym (refused_ending input strict lines y z ends ∙ refused_lines input lines x y takes
    ∙ ap (λ r. r || has_refused lines) none)

pub status_so : (lines : List (List ℕ × Given)) (answers : List (Option Code)) (status : ℕ) (refused applied : Bool)
    → has_refused lines ≡ refused → (applied ≡ true → list_all was_applied answers ≡ true)
    → status ≡ tally_status refused applied → IsStatusOf lines answers status
status_so lines answers status true applied is all status_is = inl (status_is, is)
status_so lines answers status false true is all status_is = inr (is, inl (status_is, all refl))
status_so lines answers status false false is all status_is = inr (is, inr status_is)
