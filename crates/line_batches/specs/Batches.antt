-- Which lines make a batch (profile).
use Rattle.std.specs.Prelude.{◌≡◌, ◌≢◌, ◌⊎◌, ℕ, ◌≤◌, ◌<◌, ◌-◌, ◌^◌, Bool, true, false, List, [], ◌∷◌, ◌++◌, length}
use Rattle.std.specs.Prelude.{Option, Some, None, Result, Ok, Err}
use Rattle.std.specs.Io.KnownBytes.{Keeps}
use Rattle.line_batches.specs.declared.intake.Input.{Input}
use Rattle.uecp_text.specs.declared.text_fault.TextFault.{TextFault}
use Rattle.uecp_text.specs.declared.run_fault.RunFault.{RunFault}
use Rattle.uecp_text.specs.declared.run_fault.RunFault.TheVariants.{OutOfMemory, Reading, Writing}
use Rattle.line_feed.specs.declared.feed.Next.{Next}
use Rattle.line_feed.specs.declared.feed.Next.TheVariants.{End}
use Rattle.line_feed.specs.declared.feed_fault.FeedFault.{FeedFault}
use Rattle.line_feed.specs.declared.feed_fault.NotKept.{NotKept}
use Rattle.line_feed.specs.Lines.{IsHeld, Refusal}
use Rattle.line_batches.specs.declared.intake.Given.{Given}
use Rattle.line_batches.specs.declared.intake.Given.TheVariants.{Refused}
use Rattle.line_batches.specs.declared.taking.After.{After}
use Rattle.line_batches.specs.declared.taking.After.TheVariants.{GoesOn, Ends}
use Rattle.line_batches.specs.Intake.{Intake, FeedIntake, TakesLine, TakesOne, FailsToTake, message_of, messages_in}
use Rattle.line_batches.specs.Intake.{IsMessage}
use Rattle.line_batches.specs.Intake.{seen}
use Rattle.line_batches.specs.Intake.{is_refusal, has_refused}

-- none of these was refused, where that would end the run
abbrev pub NoneRefused : (strict : Bool) → List (List ℕ × Given) → Type 0
NoneRefused strict taken = strict ≡ true → has_refused taken ≡ false

-- the last of these was refused, and no other
abbrev pub EndsRefused : List (List ℕ × Given) → Type 0
EndsRefused taken = (before : List (List ℕ × Given)) × (line : List ℕ) × (fault : TextFault)
    × (taken ≡ before ++ (line, Refused fault) ∷ []) × (has_refused before ≡ false)

-- Behind a line that was taken, and gives this, a run ends for this: there was no memory to hold its message, which is
-- lost; or it was refused, and could not be kept where such lines are.
abbrev pub IsLeft : Given → RunFault → Type 0
IsLeft given fault = ((fault ≡ OutOfMemory) × IsMessage given) ⊎ ((fault ≡ Writing) × (is_refusal given ≡ true))

-- The next line was taken and counted, and the run ends behind it for this.
abbrev pub LeavesLine : Input → (x x' : Intake) → RunFault → Type 0
LeavesLine input x x' fault =
    (line : List ℕ) × (given : Given) × TakesLine input line given x x' × IsLeft given fault

-- ---- When a further line is taken. A feed stands somewhere, and has calls that tell whether a line is there, and that
-- take one.
module _ {D : Type 0} (remaining : D → Option (List ℕ)) (takes : D → Result Next FeedFault → List ℕ → D → Type 0)
    (says : D → Bool → D → Type 0)
    (passes : D → Refusal → Result (Unit {0}) NotKept → D → Type 0) where
  -- It was asked whether a line is there, once, and answered so.
  abbrev pub Answers : (there : Bool) → (d d' : D) → Type 0
  Answers there d d' = says d there d' × Keeps (remaining d) (remaining d')

  -- A batch of these messages comes to a further line. As long as it has none it waits for one, and asks nothing; once
  -- it has one, there is room for another, and the feed was asked, and said that a line is there.
  abbrev pub GoesFurther : (size : ℕ) → (messages : List (List ℕ)) → (d d' : D) → Type 0
  GoesFurther size messages d d' =
      ((messages ≡ []) × (d' ≡ d)) ⊎ ((messages ≢ []) × (length messages < size) × Answers true d d')

  -- A batch of these messages is whole: it has one at least; and it has as many as it may have, and nothing was asked,
  -- or the feed was asked, and said that no line is there.
  abbrev pub IsWhole : (size : ℕ) → (messages : List (List ℕ)) → (d d' : D) → Type 0
  IsWhole size messages d d' =
      (messages ≢ []) × (((length messages ≡ size) × (d' ≡ d)) ⊎ Answers false d d')

  -- A batch of these messages comes to a further line, and nothing is counted or said.
  abbrev pub ComesToMore : (size : ℕ) → (messages : List (List ℕ)) → (x x' : FeedIntake D) → Type 0
  ComesToMore size messages x x' =
      GoesFurther size messages x.feed x'.feed × (x' ≡ record x { feed = x'.feed })

  -- ---- One call for the next line.

  -- Of a line that gives this, of this number and of which this is held, the feed was told where it is refused, and
  -- answered so; of another it was told nothing.
  abbrev pub TellsRefused : Given → (number : ℕ) → (held : List ℕ) → Result (Unit {0}) NotKept → (d d' : D) → Type 0
  TellsRefused (Refused fault) number held kept d d' =
      passes d (record { number = number; fault = fault; line = held }) kept d'
  TellsRefused given number held kept d d' = (kept ≡ Ok tt) × (d' ≡ d)

  -- The next line was taken, which gives this, and the feed was told of it where it is refused, and answered so.
  abbrev pub TakesTold : Input → (line : List ℕ) → Given → Result (Unit {0}) NotKept → (x x' : FeedIntake D) → Type 0
  TakesTold input line given kept x x' = TakesLine input line given (seen remaining x) (seen remaining x')
      × ((next : Next) × (held : List ℕ) × (d : D) × takes x.feed (Ok next) held d × IsHeld line held
      × TellsRefused given x'.lines held kept d x'.feed)

  -- So, and the next one comes behind it.
  abbrev pub TakesNext : Input → (line : List ℕ) → Given → (x x' : FeedIntake D) → Type 0
  TakesNext input line given x x' = TakesTold input line given (Ok tt) x x'

  -- None was, and the input is at its end.
  abbrev pub FindsEnd : Input → (x x' : FeedIntake D) → Type 0
  FindsEnd input x x' = TakesOne input (seen remaining x) (seen remaining x') None
      × ((held : List ℕ) × takes x.feed (Ok End) held x'.feed)

  -- One of the two. (private)
  abbrev pub TakesGiven : Input → (x x' : FeedIntake D) → Option Given → Type 0
  TakesGiven input x x' None = FindsEnd input x x'
  TakesGiven input x x' (Some given) = (line : List ℕ) × TakesNext input line given x x'

  -- No line gives anything, for this.
  abbrev pub FailsNext : (x x' : FeedIntake D) → RunFault → Type 0
  FailsNext x x' fault = FailsToTake (seen remaining x) (seen remaining x') fault
      × ((answer : Result Next FeedFault) × (held : List ℕ) × takes x.feed answer held x'.feed)

  -- The next line was taken, and is refused, and the feed could not keep it.
  abbrev pub IsNotKept : Input → (x x' : FeedIntake D) → RunFault → Type 0
  IsNotKept input x x' fault = (fault ≡ Writing)
      × ((line : List ℕ) × (given : Given) × (why : NotKept) × TakesTold input line given (Err why) x x'
      × (is_refusal given ≡ true))

  -- So; or there was no memory to hold its message, which is lost.
  abbrev pub LeavesNext : Input → (x x' : FeedIntake D) → RunFault → Type 0
  LeavesNext input x x' fault =
      IsNotKept input x x' fault
      ⊎ ((fault ≡ OutOfMemory)
      × ((line : List ℕ) × (given : Given) × TakesNext input line given x x' × IsMessage given))

  -- ---- A batch.

  -- Lines were taken one after another into a batch that has these messages, each where the batch came to a further
  -- one; and nothing else was taken or asked.
  abbrev pub TakesOn : Input → (size : ℕ) → (messages : List (List ℕ)) → List (List ℕ × Given) → (x x' : FeedIntake D)
      → Type 0
  TakesOn input size messages [] x x' = x' ≡ x
  TakesOn input size messages ((line, given) ∷ more) x x' =
      (y : FeedIntake D) × (z : FeedIntake D) × ComesToMore size messages x y × TakesNext input line given y z
      × TakesOn input size (messages ++ message_of given) more z x'

  -- Why a batch ends there: it is whole, and the run goes on; or the input is at its end, or a line was refused where
  -- that ends the run; or the next line could not be read, or memory was wanting for it or for its message, or it was
  -- refused and the feed could not keep it, or 2^64 - 1 lines were taken, and the run ends for that.
  abbrev pub EndsBatch : Input → (size : ℕ) → (strict : Bool) → List (List ℕ × Given) → (x x' : FeedIntake D) → After
      → Type 0
  EndsBatch input size strict taken x x' GoesOn =
      IsWhole size (messages_in taken) x.feed x'.feed × (x' ≡ record x { feed = x'.feed }) × NoneRefused strict taken
  EndsBatch input size strict taken x x' (Ends (Ok done)) =
      ((y : FeedIntake D) × ComesToMore size (messages_in taken) x y × FindsEnd input y x' × NoneRefused strict taken)
      ⊎ ((strict ≡ true) × EndsRefused taken × (x' ≡ x))
  EndsBatch input size strict taken x x' (Ends (Err fault)) =
      (y : FeedIntake D) × ComesToMore size (messages_in taken) x y
      × (FailsNext y x' fault ⊎ LeavesNext input y x' fault
      ⊎ ((fault ≡ Reading) × (length taken ≡ 2 ^ 64 - 1) × (x' ≡ y)))
      × NoneRefused strict taken

  -- Lines were taken that give these messages, at most so many, and then this comes: while the batch has no message it
  -- waits for a line; behind that it takes a further line only where the feed says that one is there, and ends short of
  -- as many only where the feed says that none is, or where no line is to be taken any more.
  abbrev pub TakesBatch : Input → (size : ℕ) → (strict : Bool) → (messages : List (List ℕ)) → After
      → (x x' : FeedIntake D) → Type 0
  TakesBatch input size strict messages after x x' =
      (taken : List (List ℕ × Given)) × (y : FeedIntake D) × TakesOn input size [] taken x y
      × (messages ≡ messages_in taken) × (length messages ≤ size) × EndsBatch input size strict taken y x' after

  -- ---- One line of it.

  -- the run does not end at a line that gives this (private)
  abbrev pub IsPassed : (strict : Bool) → Given → Type 0
  IsPassed strict given = strict ≡ true → is_refusal given ≡ false

  -- why a batch ends behind a line that gives this (private)
  abbrev pub EndsAt : (size : ℕ) → (strict : Bool) → Given → (batch : List (List ℕ)) → After → (d d' : D) → Type 0
  EndsAt size strict given batch GoesOn d d' = IsWhole size batch d d' × IsPassed strict given
  EndsAt size strict given batch (Ends (Ok done)) d d' =
      (strict ≡ true) × ((fault : TextFault) × (given ≡ Refused fault)) × (d' ≡ d)
  EndsAt size strict given batch (Ends (Err fault)) d d' = ⊥

  -- what comes after a line that gives this, by what the batch has then: the batch goes on, and has room for another
  -- message; or it ends there (private)
  abbrev pub IsAfterLine : (size : ℕ) → (strict : Bool) → Given → (batch : List (List ℕ)) → Option After → (d d' : D)
      → Type 0
  IsAfterLine size strict given batch None d d' =
      GoesFurther size batch d d' × (length batch < size) × IsPassed strict given
  IsAfterLine size strict given batch (Some after) d d' =
      (length batch ≤ size) × EndsAt size strict given batch after d d'

  -- The message that a line gives was put into a batch, and this comes after it; or there was no memory to hold it.
  -- (private)
  abbrev pub PutsGiven : (size : ℕ) → (strict : Bool) → Given → (batch batch' : List (List ℕ)) → Option After
      → (d d' : D) → Type 0
  PutsGiven size strict given batch batch' after d d' =
      ((batch' ≡ batch ++ message_of given) × IsAfterLine size strict given batch' after d d')
      ⊎ ((batch' ≡ batch) × (after ≡ Some (Ends (Err OutOfMemory)))
      × IsMessage given × (d' ≡ d))

  -- The next line was taken into a batch that has room for its message, and this comes after it. Or no line was taken,
  -- since the input is at its end, or for this fault; or it was refused, and the feed could not keep it. (private)
  abbrev pub TakesInto : Input → (size : ℕ) → (strict : Bool) → (x x' : FeedIntake D) → (batch batch' : List (List ℕ))
      → Option After → Type 0
  TakesInto input size strict x x' batch batch' after =
      ((line : List ℕ) × (given : Given) × (y : FeedIntake D) × TakesNext input line given x y
      × PutsGiven size strict given batch batch' after y.feed x'.feed × (x' ≡ record y { feed = x'.feed }))
      ⊎ ((batch' ≡ batch) × ((FindsEnd input x x' × (after ≡ Some (Ends (Ok tt))))
      ⊎ ((fault : RunFault) × (after ≡ Some (Ends (Err fault)))
      × (FailsNext x x' fault ⊎ IsNotKept input x x' fault))))
