-- Where the parts of a phrase stop. No public clause cites this.
use Rattle.std.specs.Prelude.{◌≡◌, ◌⊎◌, ℕ, Bool, true, false, List, [], ◌∷◌, length, codes}
use Rattle.rds_text.specs.declared.programme_type.Region.{Region}
use Rattle.phrase_tokens.specs.Tokens.{Token, Word}
use Rattle.uecp_phrases.specs.declared.head.Head.{Head}
use Rattle.uecp_phrases.specs.declared.expectation.Expectation.{Expectation}
use Rattle.uecp_phrases.specs.declared.expectation.Expectation.TheVariants as what
use Rattle.uecp_phrases.specs.Phrases.{IsHead, IsSwitch, Tells, Choices, Make}
use Rattle.uecp_phrases.specs.Expecting.{acts_somewhere, MayStand, IsStop}

-- What stands in front may not.
abbrev pub IsNotFirst : Region → Expectation → List Token → Type 0
IsNotFirst region wanted [] = Unit {0}
IsNotFirst region wanted (t ∷ rest) = MayStand region wanted t → ⊥

-- This is wanted here, and something else stands in front, or nothing.
pub record IsStuck (region : Region) (wanted : Expectation) (tokens : List Token) (w : Expectation) (left : ℕ)
    : Type 0 where
  pub what_is : w ≡ wanted
  pub counted : left ≡ length tokens
  pub none : IsNotFirst region wanted tokens

-- The tokens begin with this word, and stop behind it, where that is wanted.
pub record IsStopBefore (word : List ℕ) (wanted : Expectation) (tokens : List Token) (w : Expectation) (left : ℕ)
    : Type 0 where
  pub rest : List Token
  pub whole : tokens ≡ Word word ∷ rest
  pub stuck : (region : Region) → IsStuck region wanted rest w left

-- No first word of a phrase stands in front, or one that acts nowhere where a place is said.
abbrev pub IsNoHead : (placed : Bool) → List Token → Type 0
IsNoHead placed [] = Unit {0}
IsNoHead placed (t ∷ rest) =
    (h : Head) → IsHead t h → (placed ≡ true → acts_somewhere h ≡ true) → ⊥

-- The tokens behind a phrase's first word tell the rest, whatever they add.
abbrev pub Told : Region → Head → List Token → Type 0
Told region h tokens = (bytes : List ℕ) × Tells region h false 0 0 tokens bytes

-- They stop to tell it: this may stand there, in each region.
abbrev pub IsUntold : Head → (tokens : List Token) → Expectation → (left : ℕ) → Type 0
IsUntold h tokens w left = (region : Region) → IsStop region (Told region h) tokens w left

-- It is a byte that is wanted.
abbrev pub IsByteWanted : Expectation → Type 0
IsByteWanted what.Service = Unit {0}
IsByteWanted what.TwoDigits = Unit {0}
IsByteWanted what.AnotherByte = Unit {0}
IsByteWanted wanted = ⊥

-- Tokens that may stand where they are wanted, and then others.
abbrev pub Each : Region → List Expectation → (List Token → Type 0) → List Token → Type 0
Each region [] Others l = Others l
Each region (w ∷ ws) Others l =
    (t : Token) × (more : List Token) × (l ≡ t ∷ more) × MayStand region w t × Each region ws Others more

-- They stop to be that, in each region.
abbrev pub IsUnmet : List Expectation → (List Token → Type 0) → (tokens : List Token) → Expectation → (left : ℕ)
    → Type 0
IsUnmet ws Others tokens w left = (region : Region) → IsStop region (Each region ws Others) tokens w left

-- `add`, or the end.
abbrev pub IsAddOrEnd : List Token → Type 0
IsAddOrEnd l = (l ≡ []) ⊎ (l ≡ Word (codes "add") ∷ [])

-- The end.
abbrev pub IsEnd : List Token → Type 0
IsEnd l = l ≡ []

-- The tokens are a switch, on or off.
abbrev pub IsSwitched : List Token → Type 0
IsSwitched l = (on : Bool) × IsSwitch l on

-- The tokens make choices behind those that were made before.
abbrev pub AreChosen : (before : Choices) → List Token → Type 0
AreChosen before tokens = (made : Choices) × Make before tokens made

-- What is wanted first of a phrase behind where it acts.
abbrev pub word_wanted : (set service : Bool) → Expectation
word_wanted set true = what.WordForService
word_wanted true false = what.WordInSet
word_wanted false false = what.FirstWord
