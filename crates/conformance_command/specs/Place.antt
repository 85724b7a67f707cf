-- Where an encoder listens, as a text (profile).
use Rattle.std.specs.Prelude.{◌≡◌, ◌<◌, ℕ, List, ◌++◌, codes}
use Rattle.commands.specs.Host.{NamesHost}
use Rattle.std.specs.Str.Parse.{IsNumeral, without_leading_plus, digits_value}

-- The text is what names this host, a colon, and decimal digits of this port, which is not 0.
abbrev pub IsPlace : (text host : List ℕ) → (port : ℕ) → Type 0
IsPlace text host port = (named : List ℕ) × (digits : List ℕ) × (text ≡ named ++ codes ":" ++ digits)
    × NamesHost named host × IsNumeral 10 (without_leading_plus digits)
    × (digits_value 10 (without_leading_plus digits) ≡ port) × (0 < port)
