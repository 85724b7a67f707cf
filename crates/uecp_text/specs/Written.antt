-- What a run has written (profile).
use Rattle.std.specs.Prelude.{◌≡◌, ℕ, Bool, false, Option, List, [], ◌++◌, IsTrue}
use Rattle.std.specs.Io.KnownBytes.{Appends}

-- What is kept of the output: its bytes so far, and whether they are whole. Once memory was refused they are not, and
-- then they are a beginning.
pub record Kept : Type 0 where
  pub bytes : List ℕ
  pub is_whole : Bool

-- Where the output is whole afterwards, it was whole before and these bytes were added at its end.
abbrev pub Adds : Kept → Kept → List ℕ → Type 0
Adds before after bytes = IsTrue after.is_whole → IsTrue before.is_whole × (after.bytes ≡ before.bytes ++ bytes)

-- Whatever memory there was, what was kept stays, and behind it a beginning of these bytes was added: all of them where
-- the output is whole afterwards, and none where it was not whole before.
pub record AddsFirst (before after : Kept) (bytes : List ℕ) : Type 0 where
  pub part : List ℕ
  pub rest : List ℕ
  pub split : bytes ≡ part ++ rest
  pub added : after.bytes ≡ before.bytes ++ part
  pub whole : IsTrue after.is_whole → IsTrue before.is_whole × (rest ≡ [])
  pub broken : before.is_whole ≡ false → part ≡ []

-- Law: what is added to an output one after another is added as one, so what it keeps is always a beginning of all that
-- was said.
abbrev pub IsBeginning : Type 0
IsBeginning = (a b c : Kept) (first second : List ℕ) → AddsFirst a b first → AddsFirst b c second
    → AddsFirst a c (first ++ second)

-- Law: all of the bytes were added where the output is whole.
abbrev pub IsAllWhereWhole : Type 0
IsAllWhereWhole = (before after : Kept) (bytes : List ℕ) → AddsFirst before after bytes → Adds before after bytes

-- Where the output was whole before, it is whole afterwards, and these bytes were added at its end.
abbrev pub Writes : Kept → Kept → List ℕ → Type 0
Writes before after bytes = IsTrue before.is_whole → IsTrue after.is_whole × (after.bytes ≡ before.bytes ++ bytes)

-- A writer, as far as it tells what it holds, got a beginning of these bytes, or all.
abbrev pub Begins : (held held' : Option (List ℕ)) → List ℕ → Type 0
Begins held held' bytes = (part : List ℕ) × (rest : List ℕ) × (bytes ≡ part ++ rest) × Appends held held' part
