-- What a line of phrases comes to, as C reads it (profile).
use Rattle.std.specs.Prelude.{◌≡◌, ◌≤◌, ℕ, List, [], ◌++◌, length, take, drop, Option}
use Rattle.std.specs.Borrow.{Bor}
use Rattle.std.specs.Option.{option_map_or}
use Rattle.rds_text.specs.declared.programme_type.Region.{Region}
use Rattle.phrase_tokens.specs.declared.tokens_read.Unread.{Unread as Reason}
use Rattle.phrase_tokens.specs.declared.tokens_read.Unread.TheVariants as why
use Rattle.uecp_objects_c.specs.declared.phrases.outcome.Outcome.{Outcome}
use Rattle.uecp_objects_c.specs.declared.phrases.outcome.Outcome.TheVariants.{Message, NoText, Unread, Unsaid}
use Rattle.uecp_objects_c.specs.declared.phrases.outcome.Outcome.TheVariants.{OutOfMemory}
use Rattle.uecp_objects_c.specs.declared.phrases.told_message.Told.{Told}
use Rattle.uecp_objects_c.specs.Outcomes.{IsOutcomeOf}

-- Why a character can't be read: no word begins with it, it is not in the set, it begins no escape, it is a quote that
-- is not closed, or one with too much behind it (profile).
abbrev pub reason_number : Reason → ℕ
reason_number why.Word = 1
reason_number why.NotInSet = 2
reason_number why.Escape = 3
reason_number why.Unclosed = 4
reason_number why.TooLong = 5

-- The number by which each outcome is answered (profile).
abbrev pub kind_of : Outcome → ℕ
kind_of (Message message) = 0
kind_of (NoText column) = 1
kind_of (Unread column reason) = 2
kind_of (Unsaid column what nearest) = 3
kind_of OutOfMemory = 4

-- A message is counted, and stands at the start of the room for it; all else stays (profile).
abbrev pub with_message : Told → List ℕ → Told
with_message told m = record told { length = length m; message = m ++ drop (length m) told.message }

-- The same of the words that say what was expected.
abbrev pub with_expected : Told → List ℕ → Told
with_expected told words =
    record told { expected_length = length words; expected = words ++ drop (length words) told.expected }

-- The same of the word that was perhaps meant.
abbrev pub with_nearest : Told → List ℕ → Told
with_nearest told word =
    record told { nearest_length = length word; nearest = word ++ drop (length word) told.nearest }

-- The word that was perhaps meant: none, or its first 16 letters.
abbrev pub nearest_of : Option (Bor (List ℕ)) → List ℕ
nearest_of nearest = option_map_or (λ word. take 16 word.now) nearest []

-- What an outcome has is told in the fields for it, and all else stays (profile).
abbrev pub IsShown : Outcome → (old new : Told) → Type 0
IsShown (Message message) old new = new ≡ with_message old message
IsShown (NoText column) old new = new ≡ record old { column = column }
IsShown (Unread column reason) old new = new ≡ record old { column = column; reason = reason_number reason }
IsShown (Unsaid column what nearest) old new =
    (words : List ℕ) × (length words ≤ 96)
    × (new ≡ with_nearest (with_expected (record old { column = column }) words) (nearest_of nearest))
IsShown OutOfMemory old new = new ≡ old

-- A line comes to an outcome, that is told, and its number is answered (profile).
pub record Comes (region : Region) (text : List ℕ) (old new : Told) (answer : ℕ) : Type 0 where
  pub outcome : Outcome
  pub is : IsOutcomeOf region text outcome
  pub shown : IsShown outcome old new
  pub kind : answer ≡ kind_of outcome
