-- What was lent to a run (profile).
use Rattle.std.specs.Prelude.{ℕ, Bool, List, Option}
use Rattle.line_batches.specs.declared.intake.Input.{Input}
use Rattle.line_batches.specs.Intake.{FeedIntake}
use Rattle.notices.specs.Told.{Told}

-- Lines as they come: what they are, and whether the run ends at one that is refused; where their taking stands; the
-- batch that was taken last; and the loans of the feed that they come from and of where it is told of those that are
-- refused.
pub record Taking (D : Type 0) : Type 0 where
  pub input : Input
  pub strict : Bool
  pub at : FeedIntake D
  pub batch : List (List ℕ)
  pub feed : ℕ
  pub errors : ℕ

-- Who is told what comes of messages: what the writer holds, and its loan.
pub record Telling : Type 0 where
  pub held : Option (List ℕ)
  pub writer : ℕ

-- A feed that was lent: where it stands, and its loan.
pub record Fed (D : Type 0) : Type 0 where
  pub feed : D
  pub loan : ℕ

-- Where refusals are told, which was lent: what was said there, and its loan.
pub record Said : Type 0 where
  pub said : Told
  pub loan : ℕ
