-- What a phrase means: the bytes that it adds to a message. A phrase says where it acts, begins with a word of its own,
-- and goes on with numbers, names or a text (profile).
use Rattle.std.specs.Prelude.{◌≡◌, ◌⊎◌, ℕ, ◌+◌, ◌-◌, ◌*◌, ◌≤◌, Bool, true, false, if◌then◌else◌, List, [], ◌∷◌, ◌++◌}
use Rattle.std.specs.Prelude.{◌||◌, is_some, length, map, replicate, flat_map, codes, Option, Some, None}
use Rattle.std.specs.Char.{to_ascii_lowercase}
use Rattle.uecp_elements.specs.Grammar.{Part, NoText, Text, Pi, Ps, TaTp, Ms, Pty, Rt, Select, Group, Ack}
use Rattle.uecp_elements.specs.Grammar.{spelling}
use Rattle.uecp_text.specs.Words.{IsByte, IsNumber, decimal_in}
use Rattle.rds_text.specs.declared.programme_type.Region.{Region}
use Rattle.rds_text.specs.ProgrammeTypes.{HasName}
use Rattle.phrase_tokens.specs.Tokens.{Token, Word, Quoted}
use Rattle.uecp_phrases.specs.declared.head.Head.{Head}
use Rattle.uecp_phrases.specs.declared.head.Head.TheVariants as head

-- ---- Where it acts.

-- The word names a data set: all, all but the current, or one by its number in decimal, 0 the current one (SPB 490,
-- data set number).
abbrev pub IsSet : (word : List ℕ) → (dsn : ℕ) → Type 0
IsSet word dsn =
    ((word ≡ codes "all") × (dsn ≡ 0xFF)) ⊎ (((word ≡ codes "others") × (dsn ≡ 0xFE))
    ⊎ (decimal_in 0xFD word ≡ Some dsn))

-- How a phrase says in which set it acts, if it does.
abbrev pub set_said : (set : Option (List ℕ)) → List Token
set_said None = []
set_said (Some set) = Word (codes "in") ∷ Word set ∷ []

-- How it says for which service, behind that, if it does.
abbrev pub service_said : (service : Option (List ℕ)) → List Token
service_said None = []
service_said (Some service) = Word (codes "for") ∷ Word service ∷ []

-- The data set that is meant: without a word the current one, 00.
abbrev pub IsInSet : (set : Option (List ℕ)) → (dsn : ℕ) → Type 0
IsInSet None dsn = dsn ≡ 0x00
IsInSet (Some set) dsn = IsSet set dsn

-- The programme service that is meant: without a word the main one, 00.
abbrev pub IsForService : (service : Option (List ℕ)) → (psn : ℕ) → Type 0
IsForService None psn = psn ≡ 0x00
IsForService (Some service) psn = IsByte service psn

-- ---- What it says.

-- The word with which a phrase begins, behind where it acts.
abbrev pub head_word : Head → List ℕ
head_word head.Pi = codes "pi"
head_word head.Ps = codes "ps"
head_word head.Rt = codes "rt"
head_word head.Traffic = codes "traffic"
head_word head.Ta = codes "ta"
head_word head.Tp = codes "tp"
head_word head.Music = codes "music"
head_word head.Speech = codes "speech"
head_word head.Ms = codes "ms"
head_word head.Pty = codes "pty"
head_word head.Set = codes "set"
head_word head.Group = codes "group"
head_word head.Ack = codes "ack"
head_word head.Raw = codes "raw"

-- The token is this word, whatever the case of its letters.
abbrev pub IsHead : Token → Head → Type 0
IsHead t h = (word : List ℕ) × (t ≡ Word word) × (map to_ascii_lowercase word ≡ head_word h)

-- A byte whose bits have no name is told as it is.
abbrev pub AreBits : List Token → ℕ → Type 0
AreBits tokens raw = (word : List ℕ) × (tokens ≡ Word (codes "bits") ∷ Word word ∷ []) × IsByte word raw

-- A programme identification: four hexadecimal digits.
abbrev pub IsPi : List Token → ℕ → Type 0
IsPi tokens pi = (word : List ℕ) × (tokens ≡ Word word ∷ []) × IsNumber word pi

-- A programme service name: at most 8 bytes, filled with spaces.
abbrev pub IsName : List Token → List ℕ → Type 0
IsName tokens name = (bytes : List ℕ) × (tokens ≡ Quoted bytes ∷ []) × (length bytes ≤ 8)
    × (name ≡ bytes ++ replicate (8 - length bytes) 0x20)

-- Traffic flags by name: TP in bit 1, TA in bit 0 (SPB 490; bits: profile).
abbrev pub IsTrafficWord : List ℕ → ℕ → Type 0
IsTrafficWord word raw =
    ((word ≡ codes "none") × (raw ≡ 0)) ⊎ (((word ≡ codes "eon") × (raw ≡ 1))
    ⊎ (((word ≡ codes "programme") × (raw ≡ 2))
    ⊎ ((word ≡ codes "announcement") × (raw ≡ 3))))

-- Traffic flags: by name, or as a byte.
abbrev pub IsTraffic : List Token → ℕ → Type 0
IsTraffic tokens raw =
    ((word : List ℕ) × (tokens ≡ Word word ∷ []) × IsTrafficWord word raw) ⊎ AreBits tokens raw

-- A switch: the word on or the word off, and no other.
abbrev pub switch_word : (on : Bool) → List ℕ
switch_word true = codes "on"
switch_word false = codes "off"

abbrev pub IsSwitch : List Token → (on : Bool) → Type 0
IsSwitch tokens on = tokens ≡ Word (switch_word on) ∷ []

-- What a station switches of its traffic flags. An announcement is given by a programme that gives them, and leaves it
-- one: TP and TA while it is on, TP alone when it is off. A programme gives announcements, TP, or none (SPB 490; words:
-- profile).
abbrev pub announcing : (on : Bool) → ℕ
announcing on = if on then 3 else 2

abbrev pub giving : (on : Bool) → ℕ
giving on = if on then 2 else 0

-- A programme type: a name of the region, a number up to 31, or a byte.
abbrev pub IsProgrammeType : Region → List Token → ℕ → Type 0
IsProgrammeType region tokens raw =
    ((name : List ℕ) × (tokens ≡ Quoted name ∷ []) × HasName region raw name)
    ⊎ (((word : List ℕ) × (tokens ≡ Word word ∷ []) × (decimal_in 31 word ≡ Some raw)) ⊎ AreBits tokens raw)

-- What stands behind a RadioText: it is added to the texts that are there; the A/B flag turns, as it does where nothing
-- is said, or stays the same; or how often it is sent.
pub data Choice : Type 0 where
  Adds : Choice
  Toggles : Choice
  Stays : Choice
  Times : (count : List ℕ) → Choice

-- The words of a choice.
abbrev pub choice_tokens : Choice → List Token
choice_tokens Adds = Word (codes "add") ∷ []
choice_tokens Toggles = Word (codes "toggle") ∷ []
choice_tokens Stays = Word (codes "same") ∷ []
choice_tokens (Times count) = Word (codes "times") ∷ Word count ∷ []

-- Which choices were made: whether the flag turns, and how often the text is sent, each if it is said.
pub record Choices : Type 0 where
  pub adds : Bool
  pub turns : Option Bool
  pub times : Option ℕ

-- Each is made once at most, behind those that were made before, and of the flag one thing is said; a text is sent 0 to
-- 15 times, 0 without limit.
abbrev pub AreMade : (before : Choices) → List Choice → (made : Choices) → Type 0
AreMade before [] made = made ≡ before
AreMade before (Adds ∷ others) made = (before.adds ≡ false) × AreMade (record before { adds = true }) others made
AreMade before (Toggles ∷ others) made =
    (before.turns ≡ None) × AreMade (record before { turns = Some true }) others made
AreMade before (Stays ∷ others) made =
    (before.turns ≡ None) × AreMade (record before { turns = Some false }) others made
AreMade before (Times count ∷ others) made =
    (before.times ≡ None) × ((number : ℕ) × (decimal_in 15 count ≡ Some number)
    × AreMade (record before { times = Some number }) others made)

-- The tokens make these choices in some order.
abbrev pub Make : (before : Choices) → List Token → (made : Choices) → Type 0
Make before tokens made =
    (choices : List Choice) × (tokens ≡ flat_map choice_tokens choices) × AreMade before choices made

-- No choice was made.
abbrev pub no_choice : Choices
no_choice = record { adds = false; turns = None; times = None }

-- How often: 0 where it is not said.
abbrev pub times_of : Option ℕ → ℕ
times_of None = 0
times_of (Some number) = number

-- The flag turns, where nothing else is said, so that a receiver does not mix the text with the one before.
abbrev pub is_turned : Option Bool → Bool
is_turned None = true
is_turned (Some turns) = turns

-- The head of a RadioText: buffer rule 10 where it is added, else 00; the number of transmissions from bit 1 on; the
-- toggle in bit 0 (SPB 490, RadioText; bits: profile).
abbrev pub head_of : Choices → ℕ
head_of made =
    (if made.adds then 0x40 else 0x00) + (2 * times_of made.times + (if is_turned made.turns then 1 else 0))

-- A RadioText: none, which empties the buffer; a text and its choices; or a text and the byte of its head.
abbrev pub IsRadioText : List Token → Part → Type 0
IsRadioText tokens NoText = tokens ≡ Word (codes "clear") ∷ []
IsRadioText tokens (Text head text) =
    ((choices : List Token) × (made : Choices) × (tokens ≡ Quoted text ∷ choices) × Make no_choice choices made
    × (head ≡ head_of made))
    ⊎ ((word : List ℕ) × (tokens ≡ Word (codes "bits") ∷ Word word ∷ Quoted text ∷ []) × IsByte word head)

-- A group's type as it is called, 0A to 15B: its number, and A or B for the version (profile: twice the number, and one
-- for version B).
abbrev pub IsGroupType : (word : List ℕ) → (kind : ℕ) → Type 0
IsGroupType word kind =
    (digits : List ℕ) × (number : ℕ) × (decimal_in 15 digits ≡ Some number)
    × (((word ≡ digits ++ codes "A") × (kind ≡ 2 * number)) ⊎ ((word ≡ digits ++ codes "B") × (kind ≡ 2 * number + 1)))

-- The word that adds a group behind those that wait.
abbrev pub added_tokens : (adds : Bool) → List Token
added_tokens adds = if adds then Word (codes "add") ∷ [] else []

-- A free-format group: its type, the last five bits of block 2, blocks 3 and 4, and whether it is added, by buffer rule
-- 10; or type and second byte as they are.
abbrev pub IsGroup : List Token → (kind mode block3 block4 : ℕ) → Type 0
IsGroup tokens kind mode block3 block4 =
    ((t m b c : List ℕ) × (bits : ℕ) × (adds : Bool)
    × (tokens ≡ Word t ∷ Word m ∷ Word b ∷ Word c ∷ added_tokens adds) × IsGroupType t kind × IsByte m bits
    × (bits ≤ 0x1F) × (mode ≡ bits + (if adds then 0x40 else 0x00)) × IsNumber b block3 × IsNumber c block4)
    ⊎ ((t m b c : List ℕ) × (tokens ≡ Word (codes "bits") ∷ Word t ∷ Word m ∷ Word b ∷ Word c ∷ []) × IsByte t kind
    × IsByte m mode × IsNumber b block3 × IsNumber c block4)

-- An acknowledgement: the byte of a code, and a counter.
abbrev pub IsAck : List Token → (code counter : ℕ) → Type 0
IsAck tokens code counter =
    (c n : List ℕ) × (tokens ≡ Word c ∷ Word n ∷ []) × IsByte c code × IsByte n counter

-- Words of two hexadecimal digits, each a byte.
abbrev pub AreRaw : List Token → (bytes : List ℕ) → Type 0
AreRaw tokens [] = tokens ≡ []
AreRaw tokens (byte ∷ bytes) =
    (word : List ℕ) × (others : List Token) × (tokens ≡ Word word ∷ others) × IsByte word byte × AreRaw others bytes

-- The only token names a data set.
abbrev pub IsSelected : List Token → (dsn : ℕ) → Type 0
IsSelected tokens dsn = (word : List ℕ) × (tokens ≡ Word word ∷ []) × IsSet word dsn

-- The tokens behind a phrase's first word tell the rest, and the phrase adds these bytes. Where it acts is said only of
-- what a programme service has.
abbrev pub Tells : Region → Head → (is_placed : Bool) → (dsn psn : ℕ) → List Token → (bytes : List ℕ) → Type 0
Tells region head.Pi placed dsn psn tokens bytes = (pi : ℕ) × IsPi tokens pi × (bytes ≡ spelling (Pi dsn psn pi))
Tells region head.Ps placed dsn psn tokens bytes =
    (name : List ℕ) × IsName tokens name × (bytes ≡ spelling (Ps dsn psn name))
Tells region head.Rt placed dsn psn tokens bytes =
    (part : Part) × IsRadioText tokens part × (bytes ≡ spelling (Rt dsn psn part))
Tells region head.Traffic placed dsn psn tokens bytes =
    (raw : ℕ) × IsTraffic tokens raw × (bytes ≡ spelling (TaTp dsn psn raw))
Tells region head.Ta placed dsn psn tokens bytes =
    (on : Bool) × IsSwitch tokens on × (bytes ≡ spelling (TaTp dsn psn (announcing on)))
Tells region head.Tp placed dsn psn tokens bytes =
    (on : Bool) × IsSwitch tokens on × (bytes ≡ spelling (TaTp dsn psn (giving on)))
Tells region head.Music placed dsn psn tokens bytes = (tokens ≡ []) × (bytes ≡ spelling (Ms dsn psn 1))
Tells region head.Speech placed dsn psn tokens bytes = (tokens ≡ []) × (bytes ≡ spelling (Ms dsn psn 0))
Tells region head.Ms placed dsn psn tokens bytes = (raw : ℕ) × AreBits tokens raw × (bytes ≡ spelling (Ms dsn psn raw))
Tells region head.Pty placed dsn psn tokens bytes =
    (raw : ℕ) × IsProgrammeType region tokens raw × (bytes ≡ spelling (Pty dsn psn raw))
Tells region head.Set placed dsn psn tokens bytes =
    (placed ≡ false) × ((set : ℕ) × IsSelected tokens set × (bytes ≡ spelling (Select set)))
Tells region head.Group placed dsn psn tokens bytes =
    (placed ≡ false) × ((kind mode block3 block4 : ℕ) × IsGroup tokens kind mode block3 block4
    × (bytes ≡ spelling (Group kind mode block3 block4)))
Tells region head.Ack placed dsn psn tokens bytes =
    (placed ≡ false) × ((code counter : ℕ) × IsAck tokens code counter × (bytes ≡ spelling (Ack code counter)))
Tells region head.Raw placed dsn psn tokens bytes = (placed ≡ false) × AreRaw tokens bytes × (1 ≤ length bytes)

-- The tokens are a phrase that adds these bytes to a message.
pub record IsPhrase (region : Region) (tokens : List Token) (bytes : List ℕ) : Type 0 where
  pub set : Option (List ℕ)
  pub service : Option (List ℕ)
  pub first : Token
  pub head : Head
  pub rest : List Token
  pub dsn : ℕ
  pub psn : ℕ
  pub whole : tokens ≡ set_said set ++ (service_said service ++ (first ∷ rest))
  pub named : IsHead first head
  pub in_set : IsInSet set dsn
  pub for_service : IsForService service psn
  pub told : Tells region head (is_some set || is_some service) dsn psn rest bytes

-- The tokens are no phrase.
abbrev pub IsNoPhrase : Region → List Token → Type 0
IsNoPhrase region tokens = (bytes : List ℕ) → IsPhrase region tokens bytes → ⊥
