-- The messages of a station's file (profile).
use Rattle.std.specs.Prelude.{◌≡◌, ℕ, false, List, Option, None}
use Rattle.rds_text.specs.declared.programme_type.Region.{Region}
use Rattle.notices.specs.Told.{Told}
use Rattle.line_batches.specs.declared.intake.Input.TheVariants.{Phrases}
use Rattle.line_batches.specs.declared.intake.Given.{Given}
use Rattle.line_batches.specs.Intake.{Intake, TakesLines, TakesOne, has_refused, messages_in}

-- Where so much was left of a file, these are the messages of all its lines, in order, read as phrases with the names
-- of this region; and none of the lines is refused.
pub record IsStationOf (region : Region) (left : Option (List ℕ)) (messages : List (List ℕ)) : Type 0 where
  pub said : Told
  pub lines : List (List ℕ × Given)
  pub last : Intake
  pub end : Intake
  pub taken : TakesLines (Phrases region) lines
      (record { unread = left; lines = 0; refused = false; said = said }) last
  pub whole : TakesOne (Phrases region) last end None
  pub none_refused : has_refused lines ≡ false
  pub are : messages ≡ messages_in lines
