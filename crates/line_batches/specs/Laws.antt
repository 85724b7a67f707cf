-- Laws of batches that are taken from a feed (profile).
use Rattle.std.specs.Prelude.{◌≡◌, ◌≢◌, ◌⊎◌, ℕ, ◌≤◌, ◌<◌, ◌+◌, ◌-◌, ◌^◌, min, Bool, true, false, List, [], ◌∷◌, ◌++◌}
use Rattle.std.specs.Prelude.{length}
use Rattle.std.specs.Prelude.{Option, None, Result, Ok, Err}
use Rattle.line_batches.specs.declared.intake.Input.{Input}
use Rattle.uecp_text.specs.declared.run_fault.RunFault.{RunFault}
use Rattle.line_feed.specs.declared.feed.Next.{Next}
use Rattle.line_feed.specs.declared.feed_fault.FeedFault.{FeedFault}
use Rattle.line_feed.specs.declared.feed_fault.NotKept.{NotKept}
use Rattle.line_feed.specs.Lines.{IsHeld, Refusal}
use Rattle.line_batches.specs.declared.intake.Given.{Given}
use Rattle.line_batches.specs.declared.intake.Given.TheVariants.{Refused}
use Rattle.line_batches.specs.declared.taking.After.{After}
use Rattle.line_batches.specs.declared.taking.After.TheVariants.{GoesOn, Ends}
use Rattle.line_batches.specs.Intake.{Intake, FeedIntake, TakesLines, TakesOne, FailsToTake, messages_in, seen}
use Rattle.line_batches.specs.Batches.{NoneRefused, EndsRefused, LeavesLine, Answers, TakesNext, TakesOn, TakesBatch}

-- Why a batch ends there, as far as that is seen of the input: the run goes on, and the batch has a message; or the
-- input is at its end, or a line was refused where that ends the run.
abbrev pub IsAfter : Input → (strict : Bool) → List (List ℕ × Given) → (y x' : Intake) → After → Type 0
IsAfter input strict taken y x' GoesOn = (messages_in taken ≢ []) × NoneRefused strict taken × (x' ≡ y)
IsAfter input strict taken y x' (Ends (Ok done)) =
    (TakesOne input y x' None × NoneRefused strict taken)
    ⊎ ((strict ≡ true) × EndsRefused taken × (x' ≡ y))
IsAfter input strict taken y x' (Ends (Err fault)) = ⊥

-- Lines were taken that give these messages, at most so many, and then this comes. Or the next line could not be read,
-- or memory was wanting for it or for its message, or it was refused and could not be kept, and the run ends for that.
abbrev pub SeesBatch : Input → (size : ℕ) → (strict : Bool) → (messages : List (List ℕ)) → After → (x x' : Intake)
    → Type 0
SeesBatch input size strict messages after x x' =
    (taken : List (List ℕ × Given)) × (y : Intake) × TakesLines input taken x y × (messages ≡ messages_in taken)
    × (length messages ≤ size)
    × ((IsAfter input strict taken y x' after)
    ⊎ ((fault : RunFault) × (after ≡ Ends (Err fault)) × (FailsToTake y x' fault ⊎ LeavesLine input y x' fault)
    × NoneRefused strict taken))

-- The number under which a line is told, behind so many.
abbrev pub number_behind : (lines : ℕ) → ℕ
number_behind lines = min (lines + 1) (2 ^ 64 - 1)

-- What a feed is told of a line that gives this: where it is refused its number, what for, and what is held of it.
abbrev pub refusal_of : Given → (number : ℕ) → (held : List ℕ) → List Refusal
refusal_of (Refused fault) number held = record { number = number; fault = fault; line = held } ∷ []
refusal_of given number held = []

-- What a feed is told of lines that were taken behind so many: of each that is refused once, in order.
abbrev pub AreRefusals : (lines : ℕ) → List (List ℕ × Given) → List Refusal → Type 0
AreRefusals lines [] refusals = refusals ≡ []
AreRefusals lines ((line, given) ∷ more) refusals =
    (held : List ℕ) × (rest : List Refusal) × IsHeld line held
    × (refusals ≡ refusal_of given (number_behind lines) held ++ rest)
    × AreRefusals (number_behind lines) more rest

module _ {D : Type 0} (remaining : D → Option (List ℕ)) (takes : D → Result Next FeedFault → List ℕ → D → Type 0)
    (says : D → Bool → D → Type 0)
    (passes : D → Refusal → Result (Unit {0}) NotKept → D → Type 0) where
  -- Law: this is seen of a batch that is taken from a feed, by what of the input was not taken.
  abbrev pub IsSeen : Type 0
  IsSeen =
      (input : Input) (size : ℕ) (strict : Bool) (messages : List (List ℕ)) (after : After) (x x' : FeedIntake D)
      → TakesBatch remaining takes says passes input size strict messages after x x'
      → SeesBatch input size strict messages after (seen remaining x) (seen remaining x')

  -- Law: behind a batch that goes on with fewer messages than it may have, the feed had just said that no line is
  -- there.
  abbrev pub NoneWaits : Type 0
  NoneWaits =
      (input : Input) (size : ℕ) (strict : Bool) (messages : List (List ℕ)) (x x' : FeedIntake D)
      → TakesBatch remaining takes says passes input size strict messages GoesOn x x' → length messages < size
      → (d : D) × Answers remaining takes says passes false d x'.feed

  -- Law: a line that was taken behind a message of its batch was there, as the feed had just said.
  abbrev pub WasThere : Type 0
  WasThere =
      (input : Input) (size : ℕ) (before later : List (List ℕ × Given)) (line : List ℕ) (given : Given)
      (x x' : FeedIntake D) → TakesOn remaining takes says passes input size [] (before ++ (line, given) ∷ later) x x'
      → messages_in before ≢ []
      → (y : FeedIntake D) × (z : FeedIntake D) × (z' : FeedIntake D)
      × Answers remaining takes says passes true y.feed z.feed
      × TakesNext remaining takes says passes input line given z z'

  -- Law: where a feed keeps what it is told of lines that are refused, and nothing else changes that, it has kept
  -- each refused one of the lines that were taken, once, in order and under its number, and no other.
  abbrev pub AreKept : Type 0
  AreKept =
      (kept : D → List Refusal)
      → ((d d' : D) (answer : Result Next FeedFault) (held : List ℕ) → takes d answer held d' → kept d' ≡ kept d)
      → ((d d' : D) (there : Bool) → says d there d' → kept d' ≡ kept d)
      → ((d d' : D) (refusal : Refusal) → passes d refusal (Ok tt) d' → kept d' ≡ kept d ++ refusal ∷ [])
      → (input : Input) (size : ℕ) (messages : List (List ℕ)) (taken : List (List ℕ × Given)) (x x' : FeedIntake D)
      → TakesOn remaining takes says passes input size messages taken x x'
      → (refusals : List Refusal) × AreRefusals x.lines taken refusals
      × (kept x'.feed ≡ kept x.feed ++ refusals)
