-- Laws of phrase scripts (profile).
use Rattle.std.specs.Prelude.{ℕ, ◌≤◌, List, length}
use Rattle.uecp_elements.specs.Grammar.{AreBytes}
use Rattle.rds_text.specs.declared.programme_type.Region.{Region}
use Rattle.phrase_scripts.specs.Lines.{Says, SaysLine, message_text}

-- Law: the text that is written of a message says that message.
abbrev pub IsReadAsWritten : Type 0
IsReadAsWritten =
    (region : Region) (message : List ℕ) → AreBytes message → length message ≤ 255
    → SaysLine region (message_text region message) (Says message)
