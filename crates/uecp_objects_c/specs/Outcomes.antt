-- What a line of phrases comes to (profile).
use Rattle.std.specs.Prelude.{◌≡◌, ◌≢◌, ◌≤◌, ◌<◌, ◌+◌, ◌-◌, ℕ, List, length, drop, slice_index, chars, IsUtf8}
use Rattle.std.specs.Prelude.{option_map}
use Rattle.rds_text.specs.declared.programme_type.Region.{Region}
use Rattle.phrase_tokens.specs.declared.tokens_read.TokenFault.TheVariants as fault
use Rattle.phrase_tokens.specs.Tokens.{Token, Lays, LaysNone}
use Rattle.phrase_tokens.specs.Fronts.{Tells}
use Rattle.uecp_phrases.specs.Lines.{Say, SayNothing}
use Rattle.uecp_phrases.specs.declared.expectation.Expectation.{Expectation}
use Rattle.uecp_phrases.specs.Faults.{IsFaultAt, IsToldAt}
use Rattle.uecp_phrases.specs.Nearest.{OffersAt}
use Rattle.uecp_objects_c.specs.declared.phrases.outcome.Outcome.{Outcome}
use Rattle.uecp_objects_c.specs.declared.phrases.outcome.Outcome.TheVariants.{Message, NoText, Unread, Unsaid}
use Rattle.uecp_objects_c.specs.declared.phrases.outcome.Outcome.TheVariants.{OutOfMemory}

-- The token of that index begins at that column of the text, counted from 1; where there is none, it is the column
-- behind the last character (profile).
pub record IsColumnOf (text : List ℕ) (tokens : List Token) (index column : ℕ) : Type 0 where
  pub least : 1 ≤ column
  pub begins : index < length tokens → Lays (drop index tokens) (drop (column - 1) text)
  pub no_space : index < length tokens → slice_index text (column - 1) ≢ 0x20
  pub behind : length tokens ≤ index → column ≡ length text + 1

-- The tokens that stand in the text say the message; or they say none, something else was expected at the token of
-- which the column is told, and the word that is offered is the nearest of those that may stand there (profile).
abbrev pub TokensSay : Region → (text : List ℕ) → List Token → Outcome → Type 0
TokensSay region text tokens (Message message) = Say region tokens message × (length message ≤ 255)
TokensSay region text tokens (Unsaid column what nearest) =
    SayNothing region tokens
    × ((index : ℕ) × (expected : Expectation) × IsFaultAt region tokens index × IsColumnOf text tokens index column
    × IsToldAt region tokens expected index
    × OffersAt region expected tokens index (option_map (λ word. word.now) nearest))
TokensSay region text tokens outcome = ⊥

-- The same of a text: its tokens say so; or no tokens stand in it, and that is told of the character of a column
-- (profile).
abbrev pub CharactersSay : Region → (text : List ℕ) → Outcome → Type 0
CharactersSay region text (Unread column reason) = LaysNone text × Tells text (fault.Unread column reason)
CharactersSay region text outcome = (tokens : List Token) × Lays tokens text × TokensSay region text tokens outcome

-- The same of bytes, which are its UTF-8 or are none; or memory was refused (profile).
abbrev pub IsOutcomeOf : Region → (text : List ℕ) → Outcome → Type 0
IsOutcomeOf region text (NoText column) = IsUtf8 text → ⊥
IsOutcomeOf region text OutOfMemory = Unit {0}
IsOutcomeOf region text outcome = IsUtf8 text × CharactersSay region (chars text) outcome
