-- Where something stands in a text (profile).
use Rattle.std.specs.Prelude.{◌≡◌, ◌⊎◌, ℕ, ◌+◌, ◌<◌, ◌≤◌, ◌==◌, Bool, ◌||◌, [], ◌∷◌, take, drop, length, None, Some}
use Rattle.std.specs.Prelude.{if◌then◌else◌, nat_le, nat_lt, count_by, slice_index, IsUtf8}
use Rattle.std.specs.List.{list_any, prefix_len}
use Rattle.toml.specs.Data.{Members, get_member}
use Rattle.toml.specs.Parse.{parse_document}
use Rattle.option_files.specs.Words.{Text}
use Rattle.option_files.specs.declared.place.Place.{Place}

-- A line feed.
abbrev pub is_feed : ℕ → Bool
is_feed b = b == 10

-- The first byte of a character.
abbrev pub is_first : ℕ → Bool
is_first b = nat_lt b 128 || nat_le 192 b

-- A space or a tab.
abbrev pub is_blank : ℕ → Bool
is_blank b = b == 32 || b == 9

-- What stands behind the last line feed.
abbrev pub last_line : Text → Text
last_line [] = []
last_line (b ∷ text) = if list_any is_feed text then last_line text else if is_feed b then text else b ∷ text

-- The place of the byte at this index: one more than the line feeds before it, and one more than the characters before
-- it in its line.
pub record IsPlaceAt (text : Text) (index : ℕ) (place : Place) : Type 0 where
  pub is_line : place.line ≡ count_by is_feed (take index text) + 1
  pub is_column : place.column ≡ count_by is_first (last_line (take index text)) + 1

-- The text is TOML, and has no such key.
pub record Lacks (name : Text) (text : Text) : Type 0 where
  pub is_text : IsUtf8 text
  pub read : Members
  pub is_read : parse_document text ≡ Some read
  pub none : get_member name read ≡ None

-- A line begins at this index: the first, or behind a line feed.
abbrev pub BeginsLine : (text : Text) → (index : ℕ) → Type 0
BeginsLine text index =
    (index ≡ 0) ⊎ ((before : ℕ) × (index ≡ before + 1) × (before < length text) × (slice_index text before ≡ 10))

-- The lines before this index are TOML without such a key, and no longer beginning in whole lines is: so the statement
-- that gives it begins here.
pub record BeginsEntry (name : Text) (text : Text) (index : ℕ) : Type 0 where
  pub begins : BeginsLine text index
  pub within : index ≤ length text
  pub lacks : Lacks name (take index text)
  pub longest : (later : ℕ) → index < later → BeginsLine text later → Lacks name (take later text) → ⊥

-- The place of the entry of this name: where its line begins, behind spaces and tabs.
abbrev pub IsPlaceOf : (name : Text) → (text : Text) → Place → Type 0
IsPlaceOf name text place = (index : ℕ) × BeginsEntry name text index
    × IsPlaceAt text (index + prefix_len is_blank (drop index text)) place
