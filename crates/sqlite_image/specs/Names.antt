-- Whether a name still leads to the file that it led to (profile).
use Rattle.std.specs.Prelude.{◌≡◌, ◌≤◌}
use Rattle.sqlite_image.specs.declared.names.Sight.{Sight}

-- What is seen now is the file that was seen before: it is on the same device under the same number, has no name but
-- this, and has not become shorter.
pub record GoesOn (before now : Sight) : Type 0 where
  pub device : now.device ≡ before.device
  pub number : now.number ≡ before.number
  pub one : now.names ≡ 1
  pub long : before.len ≤ now.len
