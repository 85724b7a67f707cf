-- What a run of a page reads, takes and answers (profile).
use Rattle.std.specs.Prelude.{◌≡◌, ℕ, Bool, List, ◌++◌, codes, decimal, Option}
use Rattle.std.specs.Io.KnownBytes.{Consumes, IsAtEnd}
use Rattle.page.specs.declared.intake.taking.Intake.{Intake}
use Rattle.page.specs.Lines.{AreAll}
use Rattle.page.specs.Intake.{status_of}
use Rattle.page.specs.Input.{GoesOn, Ends, HasOther}
use Rattle.page_server.specs.declared.server.Progress.{Progress}
use Rattle.page_server.specs.declared.server.Progress.TheVariants.{More, Waits, Ended}

-- Bytes were read of an input, and the lines of it that were taken are what came of all that was read.
abbrev pub ReadsOn : (old new : Option (List ℕ)) → (before behind : Intake) → Type 0
ReadsOn old new before behind = (bytes : List ℕ) × Consumes old new bytes × GoesOn bytes before behind

-- An input was read to its end, and all its lines were taken, each once and in order.
abbrev pub ReadsAll : (old new : Option (List ℕ)) → (before behind : Intake) → Type 0
ReadsAll old new before behind = (bytes : List ℕ) × Consumes old new bytes × IsAtEnd new × Ends bytes before behind

-- How far a turn came with the input.
abbrev pub Moves : (old new : Option (List ℕ)) → (before behind : Intake) → Progress → Type 0
Moves old new before behind More = ReadsOn old new before behind
Moves old new before behind Waits = ReadsOn old new before behind
Moves old new before behind Ended = ReadsAll old new before behind

-- what is said of a line that is no object of ours
unfoldable pub other_line : (number : ℕ) → List ℕ
other_line number = codes "uecp: line " ++ (decimal number ++ codes ": no object of uecp\n")

-- A run came to the end of its input: these are all bytes that there were, and the status is 1 where a line among
-- theirs was no object of ours, and 0 where each was one.
pub record EndsWith (old new : Option (List ℕ)) (status : ℕ) : Type 0 where
  pub bytes : List ℕ
  pub read : Consumes old new bytes
  pub at_end : IsAtEnd new
  pub out : List (Option (List ℕ))
  pub are_all : AreAll bytes out
  pub refused : Bool
  pub has_other : HasOther out refused
  pub status_is : status ≡ status_of refused
