-- What is said on a connection, as those see it who ask and those who are asked (profile).
use Rattle.std.specs.Prelude.{◌≡◌, ◌≤◌, ℕ, Bool, true, false, List, [], length, take, Option, Some, None}
use Rattle.std.specs.Io.KnownBytes.{append_known}
use Rattle.page.specs.declared.guests.connection.Passed.{Passed}
use Rattle.page.specs.declared.guests.connection.Passed.TheVariants.{Bytes, NotNow, Gone}

-- What was said on a connection so far: the bytes that it gave and those that were written to it, where they are known;
-- whether it takes more now; and whether it was told that no more is written.
pub record Talk : Type 0 where
  pub given : Option (List ℕ)
  pub written : Option (List ℕ)
  pub takes_now : Bool
  pub is_shut : Bool

-- These are the bytes, where they are known.
abbrev pub IsKnown : Option (List ℕ) → List ℕ → Type 0
IsKnown None bytes = Unit {0}
IsKnown (Some known) bytes = known ≡ bytes

-- Nothing was said yet.
abbrev pub IsUnsaid : Talk → Type 0
IsUnsaid said = IsKnown said.given [] × IsKnown said.written []

-- It gave these bytes behind all that it gave before, and nothing else was said.
abbrev pub Gives : (bytes : List ℕ) → (said said' : Talk) → Type 0
Gives bytes said said' = said' ≡ record said { given = append_known said.given bytes }

-- These bytes were written behind all that were before, and nothing else was said.
abbrev pub Gets : (bytes : List ℕ) → (said said' : Talk) → Type 0
Gets bytes said said' =
    said' ≡ record said { written = append_known said.written bytes; takes_now = said'.takes_now }

-- What a read came to, of a connection that has filled a buffer so.
abbrev pub IsRead : (said said' : Talk) → (buffer : List ℕ) → Passed → Type 0
IsRead said said' buffer (Bytes count) = (count ≤ length buffer) × Gives (take count buffer) said said'
IsRead said said' buffer NotNow = said' ≡ said
IsRead said said' buffer Gone = said' ≡ said

-- What a write came to, of a connection that was offered these bytes.
abbrev pub IsWritten : (said said' : Talk) → (offered : List ℕ) → Passed → Type 0
IsWritten said said' offered (Bytes count) = (count ≤ length offered) × Gets (take count offered) said said'
IsWritten said said' offered NotNow = said' ≡ record said { takes_now = false }
IsWritten said said' offered Gone = said' ≡ said

-- It was told that no more is written, or that failed.
abbrev pub IsShut : (said said' : Talk) → Bool → Type 0
IsShut said said' true = said' ≡ record said { is_shut = true }
IsShut said said' false = said' ≡ said
