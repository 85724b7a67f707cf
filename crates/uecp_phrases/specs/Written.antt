-- How elements and messages are written in phrases: never by `raw` where an element reads, and by `bits` only where a
-- bit has no name (profile).
use Rattle.std.specs.Prelude.{ℕ, ◌/◌, ◌%◌, ◌==◌, ◌&&◌, nat_lt, nat_le, Bool, if◌then◌else◌, List, [], ◌∷◌, ◌++◌}
use Rattle.std.specs.Prelude.{length, map, codes, decimal, Option, Some, None}
use Rattle.std.specs.Prelude.{drop, Ok, Err}
use Rattle.hex.specs.Hex.{encode_upper}
use Rattle.uecp_frame.specs.Frame.{high_first}
use Rattle.uecp_elements.specs.Grammar.{Part, NoText, Text, Element, Pi, Ps, TaTp, Ms, Pty, Rt, Select, Group, Ack}
use Rattle.uecp_elements.specs.Reading.{Item, items}
use Rattle.rds_text.specs.declared.programme_type.Region.{Region}
use Rattle.rds_text.specs.ProgrammeTypes.{name_of}
use Rattle.phrase_tokens.specs.Tokens.{Token, Word, Quoted, Semicolon}

-- A byte is two digits, a number of 16 bits four.
abbrev pub byte_token : ℕ → Token
byte_token byte = Word (encode_upper (byte ∷ []))

abbrev pub number_token : ℕ → Token
number_token number = Word (encode_upper (high_first number))

-- A data set: all, others, or its number.
abbrev pub set_token : ℕ → Token
set_token dsn =
    if dsn == 0xFF then Word (codes "all")
    else if dsn == 0xFE then Word (codes "others")
    else Word (decimal dsn)

-- Where it acts: nothing of the current set, and nothing of the main service.
abbrev pub set_tokens : ℕ → List Token
set_tokens dsn = if dsn == 0x00 then [] else Word (codes "in") ∷ set_token dsn ∷ []

abbrev pub service_tokens : ℕ → List Token
service_tokens psn = if psn == 0x00 then [] else Word (codes "for") ∷ byte_token psn ∷ []

abbrev pub place_tokens : (dsn psn : ℕ) → List Token
place_tokens dsn psn = set_tokens dsn ++ service_tokens psn

-- A byte of which some bit has no name.
abbrev pub bits_tokens : ℕ → List Token
bits_tokens raw = Word (codes "bits") ∷ byte_token raw ∷ []

-- A name without the spaces at its end.
abbrev pub trimmed : List ℕ → List ℕ
trimmed [] = []
trimmed (byte ∷ bytes) =
    if length (trimmed bytes) == 0 && byte == 0x20 then [] else byte ∷ trimmed bytes

-- Traffic flags.
abbrev pub traffic_tokens : ℕ → List Token
traffic_tokens raw =
    if raw == 0 then Word (codes "none") ∷ []
    else if raw == 1 then Word (codes "eon") ∷ []
    else if raw == 2 then Word (codes "programme") ∷ []
    else if raw == 3 then Word (codes "announcement") ∷ []
    else bits_tokens raw

-- Music or speech, with the phrase's first word.
abbrev pub music_tokens : ℕ → List Token
music_tokens raw =
    if raw == 1 then Word (codes "music") ∷ []
    else if raw == 0 then Word (codes "speech") ∷ []
    else Word (codes "ms") ∷ bits_tokens raw

-- A programme type: by its name where it has one, else by its number up to 31.
abbrev pub programme_type_tokens : Region → ℕ → List Token
programme_type_tokens region raw = by_name (name_of region raw)
  where
    by_name : Option (List ℕ) → List Token
    by_name (Some name) = Quoted name ∷ []
    by_name None = if nat_le raw 31 then Word (decimal raw) ∷ [] else bits_tokens raw

-- The choices behind a text: that the flag turns is not said.
abbrev pub choices_tokens : (head : ℕ) → List Token
choices_tokens head =
    (if head / 0x40 % 2 == 1 then Word (codes "add") ∷ [] else [])
    ++ ((if head % 2 == 0 then Word (codes "same") ∷ [] else [])
    ++ (if head / 2 % 16 == 0 then [] else Word (codes "times") ∷ Word (decimal (head / 2 % 16)) ∷ []))

-- Each bit of the head of a RadioText has a name: bit 7 is 0, and the buffer rule 00 or 10.
abbrev pub is_named_head : ℕ → Bool
is_named_head head = nat_lt head 0x80 && head / 0x20 % 2 == 0

-- A RadioText behind its first word.
abbrev pub text_tokens : Part → List Token
text_tokens NoText = Word (codes "clear") ∷ []
text_tokens (Text head text) =
    if is_named_head head then Quoted text ∷ choices_tokens head
    else Word (codes "bits") ∷ byte_token head ∷ Quoted text ∷ []

-- A group's type as it is called.
abbrev pub type_token : ℕ → Token
type_token kind = Word (decimal (kind / 2) ++ (if kind % 2 == 0 then codes "A" else codes "B"))

-- The second byte of a group has a name for each bit, and its type is one.
abbrev pub is_named_group : (kind mode : ℕ) → Bool
is_named_group kind mode = nat_le kind 0x1F && (nat_lt mode 0x80 && mode / 0x20 % 2 == 0)

-- A group behind its first word.
abbrev pub group_tokens : (kind mode block3 block4 : ℕ) → List Token
group_tokens kind mode block3 block4 =
    if is_named_group kind mode then
    type_token kind ∷ byte_token (mode % 0x20) ∷ number_token block3 ∷ number_token block4
    ∷ (if mode / 0x40 == 1 then Word (codes "add") ∷ [] else [])
    else Word (codes "bits") ∷ byte_token kind ∷ byte_token mode ∷ number_token block3 ∷ number_token block4 ∷ []

-- The phrase of an element.
abbrev pub phrase_of : Region → Element → List Token
phrase_of region (Pi dsn psn pi) = place_tokens dsn psn ++ (Word (codes "pi") ∷ number_token pi ∷ [])
phrase_of region (Ps dsn psn name) = place_tokens dsn psn ++ (Word (codes "ps") ∷ Quoted (trimmed name) ∷ [])
phrase_of region (TaTp dsn psn raw) = place_tokens dsn psn ++ (Word (codes "traffic") ∷ traffic_tokens raw)
phrase_of region (Ms dsn psn raw) = place_tokens dsn psn ++ music_tokens raw
phrase_of region (Pty dsn psn raw) = place_tokens dsn psn ++ (Word (codes "pty") ∷ programme_type_tokens region raw)
phrase_of region (Rt dsn psn part) = place_tokens dsn psn ++ (Word (codes "rt") ∷ text_tokens part)
phrase_of region (Select dsn) = Word (codes "set") ∷ set_token dsn ∷ []
phrase_of region (Group kind mode block3 block4) = Word (codes "group") ∷ group_tokens kind mode block3 block4
phrase_of region (Ack code counter) = Word (codes "ack") ∷ byte_token code ∷ byte_token counter ∷ []

-- The phrase of bytes in which no element stands.
abbrev pub raw_phrase : List ℕ → List Token
raw_phrase bytes = Word (codes "raw") ∷ map byte_token bytes

-- The phrase of what a message reads as: an element, or the bytes from a fault on, as they are.
abbrev pub phrase_of_item : Region → (message : List ℕ) → Item → List Token
phrase_of_item region message (Ok e) = phrase_of region e
phrase_of_item region message (Err fault) = raw_phrase (drop fault.place message)

-- The phrases of a message, in order.
abbrev pub phrases_of : Region → (message : List ℕ) → List (List Token)
phrases_of region message = map (phrase_of_item region message) (items message)

-- Phrases behind others, with a semicolon before each.
abbrev pub joined_behind : List (List Token) → List Token
joined_behind [] = []
joined_behind (phrase ∷ phrases) = Semicolon ∷ (phrase ++ joined_behind phrases)

-- Phrases with a semicolon between two.
abbrev pub joined : List (List Token) → List Token
joined [] = []
joined (phrase ∷ phrases) = phrase ++ joined_behind phrases

-- A message as the tokens of one line.
abbrev pub line_of : Region → (message : List ℕ) → List Token
line_of region message = joined (phrases_of region message)
