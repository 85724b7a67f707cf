-- Laws of the lines of groups.
use Rattle.std.specs.Prelude.{◌≡◌, ℕ, List}
use Rattle.receive_command.specs.declared.group_lines.group_line.GroupLine.{GroupLine}
use Rattle.receive_command.specs.GroupLines.{IsTaken}

-- A line is one thing.
abbrev pub IsOneThing : Type 0
IsOneThing = (text : List ℕ) (one other : GroupLine) → IsTaken text one → IsTaken text other → one ≡ other
