-- Lines as they are taken from an input (profile).
use Rattle.std.specs.Prelude.{◌≡◌, ◌≢◌, ◌<◌, ◌≤◌, ◌⊎◌, ℕ, List, [], ◌∷◌, ◌++◌, length, Option, All}
use Rattle.std.specs.Io.KnownBytes.{Consumes, Keeps, IsAtEnd}
use Rattle.uecp_text.specs.Input.{lines_of}
use Rattle.uecp_text.specs.declared.text_fault.TextFault.{TextFault}
use Rattle.line_feed.specs.declared.feed.Next.{Next}
use Rattle.line_feed.specs.declared.feed.Next.TheVariants.{Line, TooLong, End}
use Rattle.line_feed.specs.declared.feed_fault.FeedFault.{FeedFault}
use Rattle.line_feed.specs.declared.feed_fault.FeedFault.TheVariants.{Reading}

-- A line feed ends these bytes.
abbrev pub HasEnd : List ℕ → Type 0
HasEnd bytes = (text : List ℕ) × (bytes ≡ text ++ 0x0A ∷ [])

-- No line feed is among these bytes.
abbrev pub HasNoEnd : List ℕ → Type 0
HasNoEnd bytes = All (λ byte. byte ≢ 0x0A) bytes

-- The first line of what was left was taken, and the rest is left: it is one line, and a line feed ends it, or the
-- input does.
pub record IsFirstLine (left left' : Option (List ℕ)) (line : List ℕ) : Type 0 where
  pub taken : Consumes left left' line
  pub one : lines_of line ≡ line ∷ []
  pub ended : HasEnd line ⊎ IsAtEnd left'

-- What came next, and what of it is held: the first line of what was left; or nothing, where that had more than 65,536
-- bytes, or where nothing was left.
abbrev pub IsNext : (left left' : Option (List ℕ)) → List ℕ → Next → Type 0
IsNext left left' held Line = IsFirstLine left left' held × (length held ≤ 65536)
IsNext left left' held TooLong = (line : List ℕ) × IsFirstLine left left' line × (65536 < length line) × (held ≡ [])
IsNext left left' held End = Keeps left left' × IsAtEnd left' × (held ≡ [])

-- No line was taken, for this: all is left, or a read failed within a line of more than 65,536 bytes, of which a
-- beginning was passed over.
abbrev pub IsUntaken : (left left' : Option (List ℕ)) → FeedFault → Type 0
IsUntaken left left' fault =
    Keeps left left' ⊎ ((fault ≡ Reading)
    × ((gone : List ℕ) × Consumes left left' gone × HasNoEnd gone × (65536 < length gone)))

-- Of a line that was taken this is held: all of it, or nothing where it has more than 65,536 bytes.
abbrev pub IsHeld : (line held : List ℕ) → Type 0
IsHeld line held = ((length line ≤ 65536) × (held ≡ line)) ⊎ ((65536 < length line) × (held ≡ []))

-- A line that is refused: the number under which that is said, what for, and what is held of it.
pub record Refusal : Type 0 where
  pub number : ℕ
  pub fault : TextFault
  pub line : List ℕ
