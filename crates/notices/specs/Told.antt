-- What is said beside the output, as on standard error (profile).
use Rattle.std.specs.Prelude.{◌≡◌, ◌++◌, Bool, IfSome, IsTrue, List, [], Option, Some, ℕ}
use Rattle.std.specs.Io.KnownBytes.{Appends}
use Rattle.uecp_text.specs.Written.{Begins}

-- What the writer holds, as far as it tells, and whether each write of it went well so far.
pub record Told : Type 0 where
  pub held : Option (List ℕ)
  pub is_whole : Bool

-- This was said: where no write failed the writer got all of it, and where one did a beginning.
pub record Says (before after : Told) (bytes : List ℕ) : Type 0 where
  pub whole : IsTrue after.is_whole → IsTrue before.is_whole × Appends before.held after.held bytes
  pub begun : Begins before.held after.held bytes

-- A value was said that shows itself so, as far as that is known: where no write failed the writer got all of it.
abbrev pub Shows : (before after : Told) → (text : Option (List ℕ)) → Type 0
Shows before after text =
    IsTrue after.is_whole → IsTrue before.is_whole × IfSome text (Appends before.held after.held)

-- Law: what is said one after another, with no write that failed, is what the writer got, whole and in order.
abbrev pub IsSaidInTurn : Type 0
IsSaidInTurn = (a b c : Told) (first second : List ℕ) → Says a b first → Says b c second → IsTrue c.is_whole
    → IsTrue a.is_whole × Appends a.held c.held (first ++ second)

-- Law: who says nothing where something was to be said has no write that failed to show, so it is not said.
abbrev pub IsNeverSkipped : Type 0
IsNeverSkipped = (told : Told) (bytes held : List ℕ) → IsTrue told.is_whole → told.held ≡ Some held
    → Says told told bytes → bytes ≡ []
