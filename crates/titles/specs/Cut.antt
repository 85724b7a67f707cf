-- Where a text is cut that is longer than a RadioText, which has 64 bytes at most (SPB 490, element 0A; how: profile).
use Rattle.std.specs.Prelude.{◌≡◌, ◌⊎◌, ℕ, ◌-◌, ◌<◌, ◌≤◌, ◌==◌, ◌&&◌, not, Bool, true, false, List, length, take}
use Rattle.std.specs.Prelude.{slice_index}

-- A word ends behind so many bytes, and a space comes.
abbrev pub ends_word : (text : List ℕ) → (count : ℕ) → Bool
ends_word text count = not (slice_index text (count - 1) == 0x20) && slice_index text count == 0x20

-- Behind so many bytes it is cut: behind the last word that ends within the last 16 of the 64, or where none does
-- behind the 64th.
abbrev pub IsCutBehind : (text : List ℕ) → (count : ℕ) → Type 0
IsCutBehind text count =
    ((48 < count) × (count ≤ 64) × (ends_word text count ≡ true)
    × ((m : ℕ) → count < m → m ≤ 64 → ends_word text m ≡ false))
    ⊎ ((count ≡ 64) × ((m : ℕ) → 48 < m → m ≤ 64 → ends_word text m ≡ false))

-- What is shown of a text: all of it, where there is room for it; else it is cut.
abbrev pub IsCut : (text cut : List ℕ) → Type 0
IsCut text cut =
    ((length text ≤ 64) × (cut ≡ text))
    ⊎ ((64 < length text) × ((count : ℕ) × IsCutBehind text count × (cut ≡ take count text)))
