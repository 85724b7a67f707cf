-- What the code's values hold, and what parts of a phrase say. No public clause cites this.
use Rattle.std.specs.Prelude.{◌≡◌, ◌⊎◌, ◌≤◌, ◌+◌, if◌then◌else◌, ℕ, Bool, List, [], ◌∷◌, ◌++◌, codes, Option, Some}
use Rattle.std.specs.Prelude.{None, false, not, is_none, ◌<◌, length}
use Rattle.uecp_text.specs.Words.{IsByte, IsNumber, decimal_in}
use Rattle.rds_text.specs.declared.programme_type.Region.{Region}
use Rattle.rds_text.specs.ProgrammeTypes.{HasName}
use Rattle.uecp_phrases.specs.declared.expectation.Expectation.{Expectation}
use Rattle.uecp_phrases.specs.declared.expectation.Expectation.TheVariants as what
use Rattle.phrase_tokens.specs.Tokens.{Token, Word, Quoted}
use Rattle.uecp_phrases.specs.declared.choices.Made.{Made}
use Rattle.uecp_phrases.specs.declared.choices.ChoiceName.{ChoiceName}
use Rattle.uecp_phrases.specs.declared.choices.ChoiceName.TheVariants as name
use Rattle.uecp_phrases.specs.declared.traffic_name.TrafficName.{TrafficName}
use Rattle.uecp_phrases.specs.declared.traffic_name.TrafficName.TheVariants as traffic
use Rattle.uecp_phrases.specs.Phrases.{added_tokens, Choice, Choices, choice_tokens, AreMade}

-- The choices that were made.
abbrev pub choices_of : Made → Choices
choices_of made = record { adds = made.adds; turns = made.turns; times = made.times }

-- The word of a choice.
abbrev pub choice_word : ChoiceName → List ℕ
choice_word name.Add = codes "add"
choice_word name.Toggle = codes "toggle"
choice_word name.Same = codes "same"
choice_word name.Times = codes "times"

-- The first tokens make one choice, behind those that were made before, and the others are left.
pub record IsStep (before : Choices) (tokens : List Token) (made : Choices) (rest : List Token) : Type 0 where
  pub choice : Choice
  pub whole : tokens ≡ choice_tokens choice ++ rest
  pub one : AreMade before (choice ∷ []) made

-- The choice may be made behind those that were made before.
abbrev pub IsFree : (before : Choices) → ChoiceName → Type 0
IsFree before name.Add = before.adds ≡ false
IsFree before name.Toggle = before.turns ≡ None
IsFree before name.Same = before.turns ≡ None
IsFree before name.Times = before.times ≡ None

-- What may stand behind them.
abbrev pub choices_left : (before : Choices) → Expectation
choices_left before = what.Choice (not before.adds) (is_none before.turns) (is_none before.times)

-- How often a text is sent by the token.
abbrev pub IsCount : Token → ℕ → Type 0
IsCount t number = (w : List ℕ) × (t ≡ Word w) × (decimal_in 15 w ≡ Some number)

-- That is said by the first of the tokens, and the others are left.
abbrev pub IsTimes : List Token → ℕ → (rest : List Token) → Type 0
IsTimes tokens number rest = (t : Token) × (tokens ≡ t ∷ rest) × IsCount t number

-- What stands behind `bits` where the head of a RadioText is told as a byte: that, and the text.
abbrev pub IsTextOfBits : List Token → (head : ℕ) → (text : List ℕ) → Type 0
IsTextOfBits tokens head text = (word : List ℕ) × (tokens ≡ Word word ∷ Quoted text ∷ []) × IsByte word head

-- The name of traffic flags.
abbrev pub traffic_word : TrafficName → List ℕ
traffic_word traffic.None = codes "none"
traffic_word traffic.Eon = codes "eon"
traffic_word traffic.Programme = codes "programme"
traffic_word traffic.Announcement = codes "announcement"

-- The tokens begin with this word.
abbrev pub BeginWith : List ℕ → List Token → Type 0
BeginWith word tokens = (rest : List Token) × (tokens ≡ Word word ∷ rest)

-- The tokens say a number behind this word, or don't begin with it.
abbrev pub IsBefore : (word : List ℕ) → (Named : List ℕ → ℕ → Type 0) → (tokens : List Token) → (number : Option ℕ)
    → (rest : List Token) → Type 0
IsBefore word Named tokens None rest = (rest ≡ tokens) × (BeginWith word tokens → ⊥)
IsBefore word Named tokens (Some number) rest =
    (name : List ℕ) × (tokens ≡ Word word ∷ Word name ∷ rest) × Named name number

-- The token is a word that names the number.
abbrev pub IsNamed : (Named : List ℕ → ℕ → Type 0) → Token → ℕ → Type 0
IsNamed Named t number = (name : List ℕ) × (t ≡ Word name) × Named name number

-- That is said by the first of the tokens, and the others are left.
abbrev pub IsFirstNamed : (Named : List ℕ → ℕ → Type 0) → List Token → ℕ → (rest : List Token) → Type 0
IsFirstNamed Named tokens number rest = (name : List ℕ) × (tokens ≡ Word name ∷ rest) × Named name number

-- Two hexadecimal digits spell five bits.
abbrev pub IsFiveBits : (word : List ℕ) → (bits : ℕ) → Type 0
IsFiveBits word bits = IsByte word bits × (bits ≤ 0x1F)

-- The token is a programme type by its name in the region, or by its number.
abbrev pub IsTypeNamed : Region → Token → (raw : ℕ) → Type 0
IsTypeNamed region t raw =
    ((name : List ℕ) × (t ≡ Quoted name) × HasName region raw name)
    ⊎ ((word : List ℕ) × (t ≡ Word word) × (decimal_in 31 word ≡ Some raw))

-- The only token is such a word.
abbrev pub IsOnly : (Named : List ℕ → ℕ → Type 0) → List Token → ℕ → Type 0
IsOnly Named tokens number = (name : List ℕ) × (tokens ≡ Word name ∷ []) × Named name number

-- A text between quotes is the first of the tokens, and the others are left.
abbrev pub IsFirstText : List Token → (text : List ℕ) → (rest : List Token) → Type 0
IsFirstText tokens text rest = tokens ≡ Quoted text ∷ rest

-- What stands behind the type of a group.
abbrev pub IsBehindType : List Token → (mode block3 block4 : ℕ) → Type 0
IsBehindType tokens mode block3 block4 =
    (m b c : List ℕ) × (bits : ℕ) × (adds : Bool) × (tokens ≡ Word m ∷ Word b ∷ Word c ∷ added_tokens adds)
    × IsFiveBits m bits × (mode ≡ bits + (if adds then 0x40 else 0x00)) × IsNumber b block3 × IsNumber c block4

-- What stands behind `bits` where a group is told by its bytes.
abbrev pub IsGroupOfBits : List Token → (kind mode block3 block4 : ℕ) → Type 0
IsGroupOfBits tokens kind mode block3 block4 =
    (t m b c : List ℕ) × (tokens ≡ Word t ∷ Word m ∷ Word b ∷ Word c ∷ []) × IsByte t kind × IsByte m mode
    × IsNumber b block3 × IsNumber c block4

-- The message of these bytes, or none where they are more than 255.
abbrev pub IsHeld : (said : List ℕ) → (message : Option (List ℕ)) → Type 0
IsHeld said None = 255 < length said
IsHeld said (Some message) = message ≡ said

-- A number, or 00 where none is said.
abbrev pub or_zero : Option ℕ → ℕ
or_zero None = 0x00
or_zero (Some number) = number

-- The letter of a version: A is 0 and B is 1.
abbrev pub IsVersion : (letter version : ℕ) → Type 0
IsVersion letter version = ((letter ≡ 0x41) × (version ≡ 0)) ⊎ ((letter ≡ 0x42) × (version ≡ 1))
