-- A fold over the items of a message, up to the first refusal.
use Rattle.std.specs.Prelude.{Bool, true, false, if◌then◌else◌, List, [], ◌∷◌, Ok, Err}
use Rattle.uecp_elements.specs.declared.code.Code.{Code}
use Rattle.uecp_elements.specs.declared.code.Code.TheVariants.{Applied}
use Rattle.uecp_elements.specs.Grammar.{Element}
use Rattle.uecp_elements.specs.Reading.{Item}

-- Whether a code is 00, so that the next element follows (profile).
abbrev pub is_applied : Code → Bool
is_applied Applied = true
is_applied _ = false

-- What is done, and the others after it only where its code is 00 (profile).
abbrev pub where_applied : {V : Type 0} → V × Code → (V → V × Code) → V × Code
where_applied done others = if is_applied done.1 then others done.0 else done

-- Each element is put into the value in turn, up to the first whose code is not 00. The code is that one, or the
-- fault's, or 00 (profile).
unfoldable pub folded : {V : Type 0} → (V → Element → V × Code) → V → List Item → V × Code
folded put v [] = (v, Applied)
folded put v (Ok e ∷ others) = where_applied (put v e) (λ w. folded put w others)
folded put v (Err fault ∷ others) = (v, fault.code)
