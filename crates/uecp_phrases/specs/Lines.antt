-- What a line of phrases says: the message that they make (profile).
use Rattle.std.specs.Prelude.{◌≡◌, ◌⊎◌, ◌≤◌, ℕ, Bool, true, false, List, [], ◌∷◌, ◌++◌, length, Option, Some, None}
use Rattle.std.specs.List.{slice_split}
use Rattle.rds_text.specs.declared.programme_type.Region.{Region}
use Rattle.phrase_tokens.specs.Tokens.{Token, Word, Quoted, Semicolon}
use Rattle.uecp_phrases.specs.Phrases.{IsPhrase}

-- The token ends a phrase.
abbrev pub ends_phrase : Token → Bool
ends_phrase (Word w) = false
ends_phrase (Quoted bytes) = false
ends_phrase Semicolon = true

-- What stands between semicolons: the tokens are cut at each.
abbrev pub phrases_in : List Token → List (List Token)
phrases_in tokens = slice_split ends_phrase tokens

-- What stands there is a phrase, or nothing, and adds its bytes.
abbrev pub AddsBytes : Region → List Token → List ℕ → Type 0
AddsBytes region tokens bytes = ((tokens ≡ []) × (bytes ≡ [])) ⊎ IsPhrase region tokens bytes

-- The phrases add these bytes one after another.
abbrev pub AddEach : Region → List (List Token) → List ℕ → Type 0
AddEach region [] bytes = bytes ≡ []
AddEach region (phrase ∷ phrases) bytes =
    (first others : List ℕ) × (bytes ≡ first ++ others) × AddsBytes region phrase first × AddEach region phrases others

-- The tokens of a line say this message: its bytes are those that the phrases between semicolons add.
abbrev pub Say : Region → List Token → (message : List ℕ) → Type 0
Say region tokens message = AddEach region (phrases_in tokens) message

-- They say nothing: no message of at most 255 bytes, which is what a frame carries.
abbrev pub SayNothing : Region → List Token → Type 0
SayNothing region tokens = (message : List ℕ) → Say region tokens message → length message ≤ 255 → ⊥

-- The phrases that are left behind a semicolon, or none behind the last.
abbrev pub phrases_left : (behind : Option (List Token)) → List (List Token)
phrases_left None = []
phrases_left (Some tokens) = phrases_in tokens
