-- Laws of phrases (profile).
use Rattle.std.specs.Prelude.{◌≡◌, ◌≢◌, ◌≤◌, ◌%◌, ◌↔◌, ℕ, List, [], ◌∷◌, ◌++◌, length, map, codes, flat_map, Option}
use Rattle.std.specs.List.{AllByRecursion}
use Rattle.std.specs.Char.{to_ascii_lowercase}
use Rattle.uecp_elements.specs.Grammar.{Element, Rt, Text, IsElement, AreBytes, spelling}
use Rattle.rds_text.specs.declared.programme_type.Region.{Region}
use Rattle.phrase_tokens.specs.Tokens.{Token, Word, IsToken}
use Rattle.uecp_phrases.specs.declared.head.Head.{Head}
use Rattle.uecp_phrases.specs.declared.head.Head.TheVariants as head
use Rattle.uecp_phrases.specs.Phrases.{set_said, service_said, head_word, IsHead, IsPhrase}
use Rattle.uecp_phrases.specs.Written.{phrase_of, raw_phrase, line_of}
use Rattle.uecp_phrases.specs.Lines.{phrases_in, Say}
use Rattle.uecp_phrases.specs.declared.expectation.Expectation.{Expectation}
use Rattle.uecp_phrases.specs.declared.expectation.Expectation.TheVariants as what
use Rattle.uecp_phrases.specs.Faults.{IsToldAt}

-- Law: what is written of an element of bytes is a phrase, and adds that element's spelling.
abbrev pub IsSaidAsWritten : Type 0
IsSaidAsWritten =
    (region : Region) (e : Element) → IsElement e → AreBytes (spelling e)
    → IsPhrase region (phrase_of region e) (spelling e)

-- Law: its tokens are such as can be written.
abbrev pub IsWritable : Type 0
IsWritable =
    (region : Region) (e : Element) → IsElement e → AreBytes (spelling e) → AllByRecursion IsToken (phrase_of region e)

-- Law: a phrase adds one row of bytes.
abbrev pub IsOneMeaning : Type 0
IsOneMeaning =
    (region : Region) (tokens : List Token) (a b : List ℕ) → IsPhrase region tokens a → IsPhrase region tokens b → a ≡ b

-- Law: bytes that are written as they are, are said.
abbrev pub IsRawSaid : Type 0
IsRawSaid =
    (region : Region) (bytes : List ℕ) → AreBytes bytes → 1 ≤ length bytes → IsPhrase region (raw_phrase bytes) bytes

-- Law: the line of a message of bytes says that message.
abbrev pub IsMessageSaid : Type 0
IsMessageSaid = (region : Region) (message : List ℕ) → AreBytes message → Say region (line_of region message) message

-- Law: the tokens of that line are such as can be written.
abbrev pub IsLineWritable : Type 0
IsLineWritable =
    (region : Region) (message : List ℕ) → AreBytes message → AllByRecursion IsToken (line_of region message)

-- ---- Words for what has others.

-- In whatever line the one is said, in whatever set and for whatever service, the line with the other in its place says
-- the same message, and no other.
abbrev pub AreAlike : (one other : List Token) → Type 0
AreAlike one other =
    (region : Region) (line changed : List Token) (before behind : List (List Token)) (set service : Option (List ℕ))
    (message : List ℕ)
    → phrases_in line ≡ before ++ (set_said set ++ (service_said service ++ one)) ∷ behind
    → phrases_in changed ≡ before ++ (set_said set ++ (service_said service ++ other)) ∷ behind
    → Say region line message ↔ Say region changed message

-- Two words.
abbrev pub said : (first second : List ℕ) → List Token
said first second = Word first ∷ Word second ∷ []

-- Law: `ta on` is `traffic announcement`, `ta off` and `tp on` are `traffic programme`, and `tp off` is `traffic none`.
abbrev pub AreTrafficSwitches : Type 0
AreTrafficSwitches =
    AreAlike (said (codes "ta") (codes "on")) (said (codes "traffic") (codes "announcement"))
    × AreAlike (said (codes "ta") (codes "off")) (said (codes "traffic") (codes "programme"))
    × AreAlike (said (codes "tp") (codes "on")) (said (codes "traffic") (codes "programme"))
    × AreAlike (said (codes "tp") (codes "off")) (said (codes "traffic") (codes "none"))

-- Law: the first word of a phrase says in capitals, or in some, what it says in small letters, with whatever behind it.
abbrev pub IsAnyCase : Type 0
IsAnyCase =
    (h : Head) (word : List ℕ) (rest : List Token) → map to_ascii_lowercase word ≡ head_word h
    → AreAlike (Word word ∷ rest) (Word (head_word h) ∷ rest)

-- ---- The A/B flag.
-- A token that can be written, and is none of the words `same`, `bits` and, in any case, `raw`: it lets the flag turn,
-- and tells no byte as it is.
pub record IsPlain (token : Token) : Type 0 where
  pub writable : IsToken token
  pub not_same : token ≢ Word (codes "same")
  pub not_bits : token ≢ Word (codes "bits")
  pub not_raw : IsHead token head.Raw → ⊥

-- The flag turns with the element's text, if it has one: bit 0 of its head is set (SPB 490, RadioText; bits: profile).
abbrev pub Turns : Element → Type 0
Turns (Rt dsn psn (Text head text)) = head % 2 ≡ 1
Turns _ = Unit {0}

-- The message is whole elements, one after another, and the flag turns with each text of them.
pub record AreTurning (message : List ℕ) : Type 0 where
  pub elements : List Element
  pub joined : message ≡ flat_map spelling elements
  pub each : AllByRecursion IsElement elements
  pub turning : AllByRecursion Turns elements

-- Law: of a line with none of the words `same`, `bits` and `raw`, whatever else it says, the flag turns with each text.
abbrev pub TextsTurn : Type 0
TextsTurn =
    (region : Region) (tokens : List Token) (message : List ℕ) → AllByRecursion IsPlain tokens
    → Say region tokens message → AreTurning message

-- Law: where it is told of a token that something else may stand there, for another reason than the message's length,
-- no line that begins with the same tokens up to that one, and with it, says a message, whatever stands behind.
abbrev pub IsFirstStop : Type 0
IsFirstStop =
    (region : Region) (tokens front rest more : List Token) (t : Token) (expected : Expectation) (message : List ℕ)
    → IsToldAt region tokens expected (length front) → (expected ≡ what.ShortMessage → ⊥) → tokens ≡ front ++ t ∷ rest
    → Say region (front ++ t ∷ more) message → ⊥
