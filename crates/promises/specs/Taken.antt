-- Which lines a whole run took from its input (profile).
use Rattle.std.specs.Prelude.{◌≡◌, ◌⊎◌, ℕ, Bool, true, false, List, [], ◌∷◌, Option, None}
use Rattle.line_batches.specs.declared.intake.Input.{Input}
use Rattle.uecp_text.specs.declared.run_fault.RunFault.{RunFault}
use Rattle.line_batches.specs.declared.intake.Given.{Given}
use Rattle.line_batches.specs.declared.taking.After.{After}
use Rattle.line_batches.specs.Intake.{Intake, TakesLines, TakesOne, FailsToTake}
use Rattle.line_batches.specs.Batches.{EndsRefused, LeavesLine, NoneRefused}
use Rattle.sending.specs.declared.options.LiveOptions.{LiveOptions}
use Rattle.notices.specs.Told.{Told}

-- How the taking of lines comes to a stop: nothing was done; or the input was found at its end; or the next line could
-- not be read, or memory was wanting for it; or it was taken, and there was no memory for its message, which is lost,
-- or it was refused and could not be kept.
abbrev pub Pauses : Input → (x x' : Intake) → Type 0
Pauses input x x' =
    (x' ≡ x) ⊎ TakesOne input x x' None
    ⊎ ((fault : RunFault) × (FailsToTake x x' fault ⊎ LeavesLine input x x' fault))

-- The input is at its end, and none of these lines was refused where that ends the run; or the last of them was, and no
-- other, and that ends the run.
abbrev pub ComesToEnd : Input → (strict : Bool) → List (List ℕ × Given) → (x x' : Intake) → Type 0
ComesToEnd input strict lines x x' =
    (TakesOne input x x' None × NoneRefused strict lines) ⊎ ((strict ≡ true) × EndsRefused lines × (x' ≡ x))

-- Where a line that is refused ends the run, none of these was, or the last and no other.
abbrev pub Passes : (strict : Bool) → List (List ℕ × Given) → Type 0
Passes strict lines = NoneRefused strict lines ⊎ ((strict ≡ true) × EndsRefused lines)

-- where the taking of lines stands at the start of a run
abbrev pub at_start : LiveOptions → (unread : Option (List ℕ)) → (said : Told) → Intake
at_start options unread said =
    record { unread = unread; lines = options.lines_before; refused = false; said = said }

-- Batches of these messages were taken one after another, each where the one before ended, and nothing else was taken
-- or asked between them.
abbrev pub AreBatches : {T : Type 0} → (takes : (messages : List (List ℕ)) → After → T → T → Type 0)
    → (batches : List (List (List ℕ))) → (x x' : T) → Type 0
AreBatches takes [] x x' = x' ≡ x
AreBatches {T} takes (messages ∷ batches) x x' =
    (after : After) × (y : T) × takes messages after x y × AreBatches takes batches y x'

-- A run took these lines of its input, one after another, and nothing else, and then it took no more; with `strict`
-- none
-- of them was refused, or the last alone.
pub record TakesSome (options : LiveOptions) (unread unread' : Option (List ℕ)) (said : Told)
    (lines : List (List ℕ × Given))
    : Type 0 where
  pub last : Intake
  pub end : Intake
  pub taken : TakesLines options.reading.input lines (at_start options unread said) last
  pub passes : Passes options.reading.strict lines
  pub pauses : Pauses options.reading.input last end
  pub is_unread : unread' ≡ end.unread

-- A run took these lines, and with them it came to the end of its input, or with `strict` to a line that was refused.
pub record TakesAll (options : LiveOptions) (unread unread' : Option (List ℕ)) (said : Told)
    (lines : List (List ℕ × Given))
    : Type 0 where
  pub last : Intake
  pub end : Intake
  pub taken : TakesLines options.reading.input lines (at_start options unread said) last
  pub ends : ComesToEnd options.reading.input options.reading.strict lines last end
  pub is_unread : unread' ≡ end.unread
