-- At which token a line of phrases says nothing (profile).
use Rattle.std.specs.Prelude.{◌≡◌, ◌≤◌, ◌+◌, ◌⊎◌, ℕ, List, [], ◌∷◌, ◌++◌, length}
use Rattle.rds_text.specs.declared.programme_type.Region.{Region}
use Rattle.phrase_tokens.specs.Tokens.{Token}
use Rattle.uecp_phrases.specs.declared.expectation.Expectation.{Expectation}
use Rattle.uecp_phrases.specs.declared.expectation.Expectation.TheVariants as what
use Rattle.uecp_phrases.specs.Lines.{phrases_in, AddsBytes, AddEach}
use Rattle.uecp_phrases.specs.Expecting.{IsStop, IsRead}

-- How many tokens phrases have with a semicolon behind each, so at which index the next one begins.
abbrev pub begins_behind : List (List Token) → ℕ
begins_behind [] = 0
begins_behind (phrase ∷ phrases) = length phrase + 1 + begins_behind phrases

-- With this phrase the line says nothing: it is neither a phrase nor nothing, or the bytes of those before and its own
-- would be more than 255.
abbrev pub IsFault : Region → (said : List ℕ) → (phrase : List Token) → Type 0
IsFault region said phrase =
    (bytes : List ℕ) → AddsBytes region phrase bytes → length said + length bytes ≤ 255 → ⊥

-- The tokens behind these bytes stop to be a phrase; or they are one, and the bytes of both would be more than 255,
-- which is told in front.
abbrev pub IsUnsaid : Region → (said : List ℕ) → (phrase : List Token) → Expectation → (left : ℕ) → Type 0
IsUnsaid region said phrase expected left =
    IsStop region (IsRead region) phrase expected left
    ⊎ (IsRead region phrase × IsFault region said phrase × (expected ≡ what.ShortMessage) × (left ≡ length phrase))

-- The token of this index lies in the first phrase with which the line says nothing, or right behind it: what stands
-- before that phrase adds at most 255 bytes.
pub record IsFaultAt (region : Region) (tokens : List Token) (index : ℕ) : Type 0 where
  pub before : List (List Token)
  pub phrase : List Token
  pub others : List (List Token)
  pub said : List ℕ
  pub whole : phrases_in tokens ≡ before ++ (phrase ∷ others)
  pub says : AddEach region before said
  pub few : length said ≤ 255
  pub fault : IsFault region said phrase
  pub least : begins_behind before ≤ index
  pub most : index ≤ begins_behind before + length phrase

-- The token of this index stands in that phrase where it stops, or right behind it where it is cut short, and this may
-- stand there; or the phrase is one that is too long behind the others, which is told of its first token.
pub record IsToldAt (region : Region) (tokens : List Token) (expected : Expectation) (index : ℕ) : Type 0 where
  pub before : List (List Token)
  pub phrase : List Token
  pub others : List (List Token)
  pub said : List ℕ
  pub left : ℕ
  pub whole : phrases_in tokens ≡ before ++ (phrase ∷ others)
  pub says : AddEach region before said
  pub few : length said ≤ 255
  pub fault : IsFault region said phrase
  pub place : index + left ≡ begins_behind before + length phrase
  pub unsaid : IsUnsaid region said phrase expected left
