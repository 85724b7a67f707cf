-- What the words of a line of a frame script say (profile).
use Rattle.std.specs.Prelude.{◌≡◌, ◌⊎◌, ℕ, ◌≤◌, List, [], ◌∷◌, length, codes, Ok}
use Rattle.hex.specs.Hex.{decode_sized}
use Rattle.uecp_elements.specs.Grammar.{NoText, Text, Element, Pi, Ps, TaTp, Ms, Pty, Rt, Select, Group, Ack, spelling}
use Rattle.uecp_text.specs.Words.{IsByte, IsNumber, IsRow}
use Rattle.uecp_words.specs.declared.element_name.ElementName.{ElementName}
use Rattle.uecp_words.specs.declared.element_name.ElementName.TheVariants as name
use Rattle.uecp_words.specs.declared.script_words.ScriptLine.{ScriptLine}
use Rattle.uecp_words.specs.declared.script_words.ScriptLine.TheVariants as script

-- The first word of an element's line.
abbrev pub name_word : ElementName → List ℕ
name_word name.Pi = codes "pi"
name_word name.Ps = codes "ps"
name_word name.TaTp = codes "tatp"
name_word name.Ms = codes "ms"
name_word name.Pty = codes "pty"
name_word name.Rt = codes "rt"
name_word name.Select = codes "select"
name_word name.Group = codes "group"
name_word name.Ack = codes "ack"

-- Three words of two digits spell these bytes.
abbrev pub AreThreeBytes : (words : List (List ℕ)) → (x y z : ℕ) → Type 0
AreThreeBytes words x y z = (a b c : List ℕ) × (words ≡ a ∷ b ∷ c ∷ []) × IsByte a x × IsByte b y × IsByte c z

-- These words spell no three bytes.
abbrev pub AreNotThreeBytes : (words : List (List ℕ)) → Type 0
AreNotThreeBytes words = (a b c : List ℕ) (x y z : ℕ) → words ≡ a ∷ b ∷ c ∷ [] → IsByte a x → IsByte b y → IsByte c z
    → ⊥

-- These words name the element: its name, and a word for each number, name or text in it.
abbrev pub Names : (words : List (List ℕ)) → Element → Type 0
Names words (Pi dsn psn pi) = (d p n : List ℕ) × (words ≡ codes "pi" ∷ d ∷ p ∷ n ∷ []) × IsByte d dsn × IsByte p psn
    × IsNumber n pi
Names words (Ps dsn psn name) = (d p n : List ℕ) × (words ≡ codes "ps" ∷ d ∷ p ∷ n ∷ []) × IsByte d dsn × IsByte p psn
    × (decode_sized n 8 ≡ Ok name)
Names words (TaTp dsn psn raw) = (d p r : List ℕ) × (words ≡ codes "tatp" ∷ d ∷ p ∷ r ∷ []) × IsByte d dsn
    × IsByte p psn × IsByte r raw
Names words (Ms dsn psn raw) = (d p r : List ℕ) × (words ≡ codes "ms" ∷ d ∷ p ∷ r ∷ []) × IsByte d dsn × IsByte p psn
    × IsByte r raw
Names words (Pty dsn psn raw) = (d p r : List ℕ) × (words ≡ codes "pty" ∷ d ∷ p ∷ r ∷ []) × IsByte d dsn × IsByte p psn
    × IsByte r raw
Names words (Rt dsn psn NoText) = (d p : List ℕ) × (words ≡ codes "rt" ∷ d ∷ p ∷ codes "empty" ∷ []) × IsByte d dsn
    × IsByte p psn
Names words (Rt dsn psn (Text head text)) = (d p h t : List ℕ) × (words ≡ codes "rt" ∷ d ∷ p ∷ h ∷ t ∷ [])
    × IsByte d dsn × IsByte p psn × IsByte h head × IsRow t text × (length text ≤ 64)
Names words (Select dsn) = (d : List ℕ) × (words ≡ codes "select" ∷ d ∷ []) × IsByte d dsn
Names words (Group kind mode block3 block4) = (k m b c : List ℕ) × (words ≡ codes "group" ∷ k ∷ m ∷ b ∷ c ∷ [])
    × IsByte k kind × IsByte m mode × IsNumber b block3 × IsNumber c block4
Names words (Ack code counter) = (c n : List ℕ) × (words ≡ codes "ack" ∷ c ∷ n ∷ []) × IsByte c code × IsByte n counter

-- These words name an element with this spelling.
abbrev pub NamesSpelling : (words : List (List ℕ)) → (bytes : List ℕ) → Type 0
NamesSpelling words bytes = (e : Element) × Names words e × (bytes ≡ spelling e)

-- These words name no element.
abbrev pub NamesNone : (words : List (List ℕ)) → Type 0
NamesNone words = (e : Element) → Names words e → ⊥

-- What a line says: it begins a frame, or adds bytes to the message of the frame that was begun.
pub data Line : Type 0 where
  Begins : (address counter : ℕ) → Line
  Extends : (bytes : List ℕ) → Line

-- What a line that was read says.
abbrev pub line_of : ScriptLine → Line
line_of (script.Frame address counter) = Begins address counter
line_of (script.Element spelled) = Extends spelled
line_of (script.Raw bytes) = Extends bytes.items

-- These words say so: an address and a counter begin a frame, an element adds its spelling, a row its bytes.
abbrev pub Says : (words : List (List ℕ)) → Line → Type 0
Says words (Begins address counter) = (a c : List ℕ) × (words ≡ codes "frame" ∷ a ∷ c ∷ []) × IsNumber a address
    × IsByte c counter
Says words (Extends bytes) = NamesSpelling words bytes ⊎ ((r : List ℕ) × (words ≡ codes "raw" ∷ r ∷ []) × IsRow r bytes)

-- These words say nothing.
abbrev pub SaysNothing : (words : List (List ℕ)) → Type 0
SaysNothing words = (line : Line) → Says words line → ⊥
