-- Lines that are taken one after another, and what they give.
use Rattle.std.proofs.Common.{◌≡◌, ◌⊎◌, ℕ, ◌+◌, Bool, List, [], ◌∷◌, ◌++◌, length, refl, sym, ap, ◌∙◌}
use Rattle.std.proofs.Common.{subst, inl, inr, append_assoc, length-append, true, false, ◌||◌}
use Rattle.std.specs.Prelude.{Result, Ok, Err}
use Rattle.line_batches.specs.declared.intake.Input.{Input}
use Rattle.uecp_text.specs.declared.run_fault.RunFault.{RunFault}
use Rattle.line_batches.specs.declared.intake.Given.{Given}
use Rattle.line_batches.specs.declared.taking.After.{After}
use Rattle.line_batches.specs.declared.taking.After.TheVariants.{GoesOn, Ends}
use Rattle.line_batches.specs.Intake.{Intake, TakesLines, FailsToTake, message_of, messages_in, is_refusal}
use Rattle.line_batches.specs.Intake.{has_refused}
use Rattle.line_batches.specs.Batches.{EndsRefused, LeavesLine, NoneRefused}
use Rattle.line_batches.specs.Laws.{IsAfter}
use Rattle.promises.specs.Taken.{Pauses, ComesToEnd, Passes}

pub messages_append : (a b : List (List ℕ × Given)) → messages_in (a ++ b) ≡ messages_in a ++ messages_in b
messages_append [] b = refl
messages_append ((line, given) ∷ a) b =
    ap (λ ms. message_of given ++ ms) (messages_append a b)
    ∙ sym (append_assoc (message_of given) (messages_in a) (messages_in b))

-- the messages of lines and of more lines are so many
pub messages_count : (a b : List (List ℕ × Given))
    → length (messages_in (a ++ b)) ≡ length (messages_in a) + length (messages_in b)
messages_count a b = ap length (messages_append a b) ∙ length-append (messages_in a) (messages_in b)

pub lines_on : (input : Input) (a b : List (List ℕ × Given)) (x y z : Intake)
    → TakesLines input a x y → TakesLines input b y z → TakesLines input (a ++ b) x z
lines_on input [] b x y z same rest = subst (λ k. TakesLines input b k z) same rest
lines_on input ((line, given) ∷ a) b x y z (w, one, more) rest = (w, one, lines_on input a b w y z more rest)

abbrev failed : RunFault → Result (Unit {0}) RunFault
failed fault = Err fault

pub same_fault : (a b : RunFault) → Ends (Err a) ≡ Ends (Err b) → a ≡ b
same_fault a b is =
    let inner : failed a ≡ failed b = (let outer : Ends (failed a) ≡ Ends (failed b) = is in cc) in cc

-- however a batch ended, the taking of lines came to a stop
pub pauses_after : (input : Input) (strict : Bool) (taken : List (List ℕ × Given)) (y z : Intake) (after : After)
    → IsAfter input strict taken y z after
    ⊎ ((fault : RunFault) × (after ≡ Ends (Err fault)) × (FailsToTake y z fault ⊎ LeavesLine input y z fault)
    × NoneRefused strict taken)
    → Pauses input y z
pauses_after input strict taken y z GoesOn (inl (some, passed, same)) = inl same
pauses_after input strict taken y z (Ends (Ok done)) (inl (inl (ends, passed))) = inr (inl ends)
pauses_after input strict taken y z (Ends (Ok done)) (inl (inr (is_strict, refused, same))) = inl same
pauses_after input strict taken y z (Ends (Err fault)) (inl never) = absurd never
pauses_after input strict taken y z after (inr (fault, is, why, passed)) = inr (inr (fault, why))

-- behind a batch that goes on no more was taken
pub goes_on_after : (input : Input) (strict : Bool) (taken : List (List ℕ × Given)) (y z : Intake)
    → IsAfter input strict taken y z GoesOn
    ⊎ ((fault : RunFault) × (GoesOn ≡ Ends (Err fault)) × (FailsToTake y z fault ⊎ LeavesLine input y z fault)
    × NoneRefused strict taken)
    → (z ≡ y) × NoneRefused strict taken
goes_on_after input strict taken y z (inl (some, passed, same)) = (same, passed)
goes_on_after input strict taken y z (inr (fault, is, why, passed)) = absurd (let no : GoesOn ≡ Ends (Err fault) = is
    in cc)

refused_append : (a b : List (List ℕ × Given)) → has_refused a ≡ false → has_refused b ≡ false
    → has_refused (a ++ b) ≡ false
refused_append [] b none is = is
refused_append ((line, given) ∷ a) b none is =
    by (is_refusal given) none (λ none_more. refused_append a b none_more is)
  where
    by : (r : Bool) → (r || has_refused a) ≡ false → (has_refused a ≡ false → has_refused (a ++ b) ≡ false)
        → (r || has_refused (a ++ b)) ≡ false
    by true wrong rest = wrong
    by false none_more rest = rest none_more

pub none_on : (strict : Bool) (a b : List (List ℕ × Given)) → NoneRefused strict a → NoneRefused strict b
    → NoneRefused strict (a ++ b)
none_on strict a b before none = λ is_strict. refused_append a b (before is_strict) (none is_strict)

-- the last of some lines is the last of more lines
last_refused : (a b : List (List ℕ × Given)) → has_refused a ≡ false → EndsRefused b → EndsRefused (a ++ b)
last_refused a b none (before, line, fault, is, none_before) = (
  a ++ before,
  line,
  fault,
  ap (λ l. a ++ l) is ∙ sym (append_assoc a before _),
  refused_append a before none none_before,
)

pub ends_on : (input : Input) (strict : Bool) (a b : List (List ℕ × Given)) (y z : Intake) → NoneRefused strict a
    → ComesToEnd input strict b y z → ComesToEnd input strict (a ++ b) y z
ends_on input strict a b y z before (inl (ends, none)) = inl (ends, none_on strict a b before none)
ends_on input strict a b y z before (inr (is_strict, refused, same)) =
    inr (is_strict, last_refused a b (before is_strict) refused, same)

pub passes_on : (strict : Bool) (a b : List (List ℕ × Given)) → NoneRefused strict a → Passes strict b
    → Passes strict (a ++ b)
passes_on strict a b before (inl none) = inl (none_on strict a b before none)
passes_on strict a b before (inr (is_strict, refused)) =
    inr (is_strict, last_refused a b (before is_strict) refused)

pub passes_after : (input : Input) (strict : Bool) (taken : List (List ℕ × Given)) (y z : Intake) (after : After)
    → IsAfter input strict taken y z after
    ⊎ ((fault : RunFault) × (after ≡ Ends (Err fault)) × (FailsToTake y z fault ⊎ LeavesLine input y z fault)
    × NoneRefused strict taken)
    → Passes strict taken
passes_after input strict taken y z GoesOn (inl (some, passed, same)) = inl passed
passes_after input strict taken y z (Ends (Ok done)) (inl (inl (ends, passed))) = inl passed
passes_after input strict taken y z (Ends (Ok done)) (inl (inr (is_strict, refused, same))) = inr (is_strict, refused)
passes_after input strict taken y z (Ends (Err fault)) (inl never) = absurd never
passes_after input strict taken y z after (inr (fault, is, why, passed)) = inl passed

-- a batch that ends well comes to the end
pub comes_to_end : (input : Input) (strict : Bool) (taken : List (List ℕ × Given)) (y z : Intake) (done : Unit {0})
    → IsAfter input strict taken y z (Ends (Ok done))
    ⊎ ((fault : RunFault) × (Ends (Ok done) ≡ Ends (Err fault))
    × (FailsToTake y z fault ⊎ LeavesLine input y z fault)
    × NoneRefused strict taken)
    → ComesToEnd input strict taken y z
comes_to_end input strict taken y z done (inl ends) = ends
comes_to_end input strict taken y z done (inr (fault, is, why, passed)) =
    absurd (let no : Ok done ≡ Err fault = (let e : Ends (Ok done) ≡ Ends (Err fault) = is in cc) in cc)

-- what comes to the end comes to a stop
pub end_pauses : (input : Input) (strict : Bool) (lines : List (List ℕ × Given)) (y z : Intake)
    → ComesToEnd input strict lines y z → Pauses input y z
end_pauses input strict lines y z (inl (ends, none)) = inr (inl ends)
end_pauses input strict lines y z (inr (is_strict, refused, same)) = inl same

-- where the taking of lines stands behind these lines, by what comes after their batch
abbrev pub Stands : Input → (strict : Bool) → List (List ℕ × Given) → (y z : Intake) → After → Type 0
Stands input strict lines y z GoesOn = (z ≡ y) × NoneRefused strict lines
Stands input strict lines y z (Ends (Ok done)) = ComesToEnd input strict lines y z
Stands input strict lines y z (Ends (Err fault)) = FailsToTake y z fault ⊎ LeavesLine input y z fault

pub stands_after : (input : Input) (strict : Bool) (taken : List (List ℕ × Given)) (y z : Intake) (after : After)
    → IsAfter input strict taken y z after
    ⊎ ((fault : RunFault) × (after ≡ Ends (Err fault)) × (FailsToTake y z fault ⊎ LeavesLine input y z fault)
    × NoneRefused strict taken)
    → Stands input strict taken y z after
stands_after input strict taken y z GoesOn next = goes_on_after input strict taken y z next
stands_after input strict taken y z (Ends (Ok done)) next = comes_to_end input strict taken y z done next
stands_after input strict taken y z (Ends (Err fault)) (inl never) = absurd never
stands_after input strict taken y z (Ends (Err fault)) (inr (other, is, why, passed)) =
    subst (λ f. FailsToTake y z f ⊎ LeavesLine input y z f) (sym (same_fault fault other is)) why

pub stands_on : (input : Input) (strict : Bool) (a b : List (List ℕ × Given)) (y z : Intake) (after : After)
    → NoneRefused strict a → Stands input strict b y z after → Stands input strict (a ++ b) y z after
stands_on input strict a b y z GoesOn before (same, none) = (same, none_on strict a b before none)
stands_on input strict a b y z (Ends (Ok done)) before so = ends_on input strict a b y z before so
stands_on input strict a b y z (Ends (Err fault)) before so = so

pub stands_pausing : (input : Input) (strict : Bool) (lines : List (List ℕ × Given)) (y z : Intake) (after : After)
    → Stands input strict lines y z after → Pauses input y z
stands_pausing input strict lines y z GoesOn so = inl so.0
stands_pausing input strict lines y z (Ends (Ok done)) so = end_pauses input strict lines y z so
stands_pausing input strict lines y z (Ends (Err fault)) so = inr (inr (fault, so))
