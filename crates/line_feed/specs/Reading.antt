-- A feed over a reader: what it holds, and when it reads (profile).
use Rattle.std.specs.Prelude.{◌≡◌, ◌⊎◌, ℕ, Bool, true, false, List, ◌∷◌, ◌++◌, Option, Some}
use Rattle.std.specs.Io.KnownBytes.{Consumes, prepend_known}
use Rattle.line_feed.specs.Lines.{HasNoEnd}

-- A reader: what it has left, whether it was at its end, and whether a read failed of which nothing was told yet.
pub record Reader : Type 0 where
  pub left : Option (List ℕ)
  pub ended : Bool
  pub failed : Bool

-- A feed over a reader: what was read and not taken, the reader, and what tells whether a read would wait.
pub record Reads (A : Type 0) : Type 0 where
  pub held : List ℕ
  pub reader : Reader
  pub arrival : A

-- what of its input was not taken: what it holds, and then what the reader has left
abbrev pub unread : {A : Type 0} → Reads A → Option (List ℕ)
unread f = prepend_known f.held f.reader.left

-- A line feed is among these bytes.
abbrev pub HasLine : List ℕ → Type 0
HasLine bytes = (text : List ℕ) × (rest : List ℕ) × (bytes ≡ text ++ 0x0A ∷ rest)

-- The next line can be told without a read: it was read up to its line feed, or the reader was at its end, or a failed
-- read is to be told.
abbrev pub IsReady : {A : Type 0} → Reads A → Type 0
IsReady f = HasLine f.held ⊎ (f.reader.ended ≡ true) ⊎ (f.reader.failed ≡ true)

-- It can't.
abbrev pub IsNotReady : {A : Type 0} → Reads A → Type 0
IsNotReady f = HasNoEnd f.held × (f.reader.ended ≡ false) × (f.reader.failed ≡ false)

-- A feed answers whether its next line is there. Where that can be told without a read it is, and nothing is read. Else
-- what tells whether a read would wait is asked, and waits for nothing: where it would no line is there, and nothing is
-- read; where it would not, one read is made, and the line is there where it can be told then.
abbrev pub Looks : {A : Type 0} → (answers : A → (milliseconds : Option ℕ) → Bool → A → Type 0) → (f : Reads A)
    → (there : Bool) → (f' : Reads A) → Type 0
Looks answers f there f' =
    (IsReady f × (there ≡ true) × (f' ≡ f))
    ⊎ (IsNotReady f × answers f.arrival (Some 0) false f'.arrival × (there ≡ false)
    × (f' ≡ record f { arrival = f'.arrival }))
    ⊎ (IsNotReady f × answers f.arrival (Some 0) true f'.arrival
    × ((bytes : List ℕ) × Consumes f.reader.left f'.reader.left bytes × (f'.held ≡ f.held ++ bytes))
    × (there ≡ true → IsReady f') × (there ≡ false → IsNotReady f'))

-- A line whose line feed was read is taken before anything more is read, or waited for.
abbrev pub ReadsNoMore : {A : Type 0} → (f f' : Reads A) → Type 0
ReadsNoMore f f' = HasLine f.held → (f'.reader ≡ f.reader) × (f'.arrival ≡ f.arrival)
