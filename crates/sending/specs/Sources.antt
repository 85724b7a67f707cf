-- Where batches come from: a feed of lines (profile).
use Rattle.std.specs.Prelude.{ℕ, Bool, List, Option, Result}
use Rattle.line_feed.specs.declared.feed.Next.{Next}
use Rattle.line_feed.specs.declared.feed_fault.FeedFault.{FeedFault}
use Rattle.line_feed.specs.declared.feed_fault.NotKept.{NotKept}
use Rattle.line_feed.specs.Lines.{Refusal}
use Rattle.line_batches.specs.declared.intake.Input.{Input}
use Rattle.line_batches.specs.declared.taking.After.{After}
use Rattle.line_batches.specs.Intake.{FeedIntake}
use Rattle.line_batches.specs.Batches.{TakesBatch}

-- A batch of lines that are this, where one that is refused ends the run or not.
abbrev pub FromFeed : {D : Type 0} → (unread : D → Option (List ℕ))
    → (takes : D → Result Next FeedFault → List ℕ → D → Type 0) → (says : D → Bool → D → Type 0)
    → (passes : D → Refusal → Result (Unit {0}) NotKept → D → Type 0) → Input → (strict : Bool) → (size : ℕ)
    → (messages : List (List ℕ)) → After → (x x' : FeedIntake D) → Type 0
FromFeed unread takes says passes input strict size = TakesBatch unread takes says passes input size strict
