-- The host that a text names (profile; RFC 3986, section 3.2.2).
use Rattle.std.specs.Prelude.{◌≡◌, ◌⊎◌, ℕ, List, ◌++◌, codes}

-- The text is this host in brackets.
abbrev pub InBrackets : (text host : List ℕ) → Type 0
InBrackets text host = text ≡ codes "[" ++ (host ++ codes "]")

-- The text names this host: it is the host in brackets, as an address of version 6 may stand; or it is the host, and
-- none is in brackets.
abbrev pub NamesHost : (text host : List ℕ) → Type 0
NamesHost text host = InBrackets text host ⊎ ((host ≡ text) × ((inside : List ℕ) → InBrackets text inside → ⊥))
