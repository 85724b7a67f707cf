-- The connections of a bad line up to one behind which the encoder begins anew.
use Rattle.std.proofs.Common.{◌≡◌, inr, subst, Bool, false}
use Rattle.std.specs.Prelude.{Option}
use Rattle.bad_line.specs.Connections.{Line, AsksRestart}
use Rattle.device_jobs.specs.Connections.{Stretch, OpensUpTo}

-- it does not begin anew, and the line gives what it gives
pub goes_on : {C I O : Type 0} (opens : Line C → Option (I × O) → Line C → Type 0) (seen s s' : Stretch C)
    (between : Line C) (ends : Option (I × O)) (begins : Bool) → seen ≡ s → begins ≡ false
    → AsksRestart seen.line begins between → opens between ends s'.line → s'.is_over ≡ seen.is_over
    → OpensUpTo opens s ends s'
goes_on opens seen s s' between ends begins is never asks gives same =
    subst (λ x. OpensUpTo opens x ends s') is
    (inr (between, subst (λ b. AsksRestart seen.line b between) never asks, gives, same))
