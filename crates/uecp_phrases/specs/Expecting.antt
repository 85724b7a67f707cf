-- What may stand at a place of a phrase, and where tokens stop to be one (profile).
use Rattle.std.specs.Prelude.{◌≡◌, ◌⊎◌, ◌≤◌, ◌<◌, ℕ, Bool, true, false, List, [], ◌∷◌, ◌++◌, length, codes, Some}
use Rattle.uecp_text.specs.Words.{IsByte, IsNumber, decimal_in}
use Rattle.rds_text.specs.declared.programme_type.Region.{Region}
use Rattle.rds_text.specs.ProgrammeTypes.{HasName}
use Rattle.phrase_tokens.specs.Tokens.{Token, Word, Quoted, Semicolon}
use Rattle.uecp_phrases.specs.declared.head.Head.{Head}
use Rattle.uecp_phrases.specs.declared.head.Head.TheVariants as head
use Rattle.uecp_phrases.specs.declared.expectation.Expectation.{Expectation}
use Rattle.uecp_phrases.specs.declared.expectation.Expectation.TheVariants as what
use Rattle.uecp_phrases.specs.Phrases.{IsSet, IsTrafficWord, IsGroupType, switch_word, IsHead, IsPhrase}

-- Whether a phrase of this first word may say where it acts.
abbrev pub acts_somewhere : Head → Bool
acts_somewhere head.Set = false
acts_somewhere head.Group = false
acts_somewhere head.Ack = false
acts_somewhere head.Raw = false
acts_somewhere h = true

-- The first word of a phrase that acts somewhere.
abbrev pub IsPlacedWord : Token → Type 0
IsPlacedWord t = (h : Head) × IsHead t h × (acts_somewhere h ≡ true)

-- The token may stand where this is expected.
abbrev pub MayStand : Region → Expectation → Token → Type 0
MayStand region what.FirstWord t =
    (t ≡ Word (codes "in")) ⊎ ((t ≡ Word (codes "for")) ⊎ ((h : Head) × IsHead t h))
MayStand region what.WordInSet t = (t ≡ Word (codes "for")) ⊎ IsPlacedWord t
MayStand region what.WordForService t = IsPlacedWord t
MayStand region what.DataSet t = (w : List ℕ) × (dsn : ℕ) × (t ≡ Word w) × IsSet w dsn
MayStand region what.Service t = (w : List ℕ) × (psn : ℕ) × (t ≡ Word w) × IsByte w psn
MayStand region what.TwoDigits t = (w : List ℕ) × (byte : ℕ) × (t ≡ Word w) × IsByte w byte
MayStand region what.FourDigits t = (w : List ℕ) × (number : ℕ) × (t ≡ Word w) × IsNumber w number
MayStand region what.Name t = (bytes : List ℕ) × (t ≡ Quoted bytes) × (length bytes ≤ 8)
MayStand region what.Text t = (bytes : List ℕ) × (t ≡ Quoted bytes)
MayStand region what.RadioText t =
    ((bytes : List ℕ) × (t ≡ Quoted bytes)) ⊎ ((t ≡ Word (codes "clear")) ⊎ (t ≡ Word (codes "bits")))
MayStand region what.Bits t = t ≡ Word (codes "bits")
MayStand region what.Traffic t =
    ((w : List ℕ) × (raw : ℕ) × (t ≡ Word w) × IsTrafficWord w raw) ⊎ (t ≡ Word (codes "bits"))
MayStand region what.Switch t = (on : Bool) × (t ≡ Word (switch_word on))
MayStand region what.ProgrammeType t =
    ((name : List ℕ) × (raw : ℕ) × (t ≡ Quoted name) × HasName region raw name)
    ⊎ (((w : List ℕ) × (raw : ℕ) × (t ≡ Word w) × (decimal_in 31 w ≡ Some raw)) ⊎ (t ≡ Word (codes "bits")))
MayStand region (what.Choice add same times) t =
    ((add ≡ true) × (t ≡ Word (codes "add")))
    ⊎ (((same ≡ true) × ((t ≡ Word (codes "same")) ⊎ (t ≡ Word (codes "toggle"))))
    ⊎ ((times ≡ true) × (t ≡ Word (codes "times"))))
MayStand region what.Times t = (w : List ℕ) × (number : ℕ) × (t ≡ Word w) × (decimal_in 15 w ≡ Some number)
MayStand region what.GroupType t =
    ((w : List ℕ) × (kind : ℕ) × (t ≡ Word w) × IsGroupType w kind) ⊎ (t ≡ Word (codes "bits"))
MayStand region what.FiveBits t = (w : List ℕ) × (bits : ℕ) × (t ≡ Word w) × IsByte w bits × (bits ≤ 0x1F)
MayStand region what.Added t = t ≡ Word (codes "add")
MayStand region what.AnotherByte t = (w : List ℕ) × (byte : ℕ) × (t ≡ Word w) × IsByte w byte
MayStand region what.End t = ⊥
MayStand region what.Semicolon t = t ≡ Semicolon
MayStand region what.ShortMessage t = ⊥

-- The phrase may end where this is expected.
abbrev pub MayEnd : Expectation → Type 0
MayEnd (what.Choice add same times) = Unit {0}
MayEnd what.Added = Unit {0}
MayEnd what.AnotherByte = Unit {0}
MayEnd what.End = Unit {0}
MayEnd expected = ⊥

-- What stands there may not: the first of the tokens, or their end.
abbrev pub MayNotStand : Region → Expectation → List Token → Type 0
MayNotStand region expected [] = MayEnd expected → ⊥
MayNotStand region expected (t ∷ rest) = MayStand region expected t → ⊥

-- This is what may stand behind these tokens, and nothing else: with each token of which it is true they go on to be
-- what is read, with no other do they, and they are it themselves exactly where the end may come.
pub record IsNext (region : Region) (Reads : List Token → Type 0) (before : List Token) (expected : Expectation)
    : Type 0 where
  pub only : (t : Token) (more : List Token) → Reads (before ++ t ∷ more) → MayStand region expected t
  pub may : (t : Token) → MayStand region expected t → (more : List Token) × Reads (before ++ t ∷ more)
  pub ends : Reads before → MayEnd expected
  pub may_end : MayEnd expected → Reads before

-- The tokens stop to be what is read where so many of them are left: this may stand there, and what stands there may
-- not.
pub record IsStop (region : Region) (Reads : List Token → Type 0) (tokens : List Token) (expected : Expectation)
    (left : ℕ) : Type 0 where
  pub before : List Token
  pub rest : List Token
  pub whole : tokens ≡ before ++ rest
  pub counted : left ≡ length rest
  pub next : IsNext region Reads before expected
  pub none : MayNotStand region expected rest

-- They do so in each region.
abbrev pub IsStopAlways : (Reads : List Token → Type 0) → (tokens : List Token) → Expectation → (left : ℕ) → Type 0
IsStopAlways Reads tokens expected left = (region : Region) → IsStop region Reads tokens expected left

-- The tokens are a phrase.
abbrev pub IsRead : Region → List Token → Type 0
IsRead region tokens = (bytes : List ℕ) × IsPhrase region tokens bytes

-- They are one that adds more than 255 bytes.
pub record IsLong (region : Region) (tokens : List Token) : Type 0 where
  pub bytes : List ℕ
  pub phrase : IsPhrase region tokens bytes
  pub many : 255 < length bytes

-- They stop to be one, or are one that is too long for a message, which is told in front.
abbrev pub IsUnread : Region → (tokens : List Token) → Expectation → (left : ℕ) → Type 0
IsUnread region tokens expected left =
    IsStop region (IsRead region) tokens expected left
    ⊎ (IsLong region tokens × (expected ≡ what.ShortMessage) × (left ≡ length tokens))
