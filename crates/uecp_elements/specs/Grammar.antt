-- The grammar of messages: how each element is spelled, and how a message reads.
use Rattle.std.specs.Prelude.{◌≡◌, ◌≢◌, ℕ, ◌+◌, ◌-◌, ◌<◌, ◌≤◌, ◌==◌, Bool, ◌||◌, if◌then◌else◌, List, [], ◌∷◌, ◌++◌}
use Rattle.std.specs.Prelude.{length, slice_index, flat_map, Option, Some, None}
use Rattle.std.specs.List.{AllByRecursion}
use Rattle.uecp_frame.specs.Frame.{high_first}
use Rattle.uecp_elements.specs.declared.code.Code.TheVariants.{UnknownElement, ElementLength}
use Rattle.uecp_elements.specs.declared.fault.ElementFault.{ElementFault}

-- What a RadioText carries for the services that it names: no text at all (profile), or a head (its bits are the
-- profile's) and a text.
pub data Part : Type 0 where
  NoText : Part
  Text : (head : ℕ) (text : List ℕ) → Part

-- An element's content. The first two numbers of most are the data set and the programme service that it names.
pub data Element : Type 0 where
  Pi : (dsn psn pi : ℕ) → Element
  Ps : (dsn psn : ℕ) (name : List ℕ) → Element
  TaTp : (dsn psn raw : ℕ) → Element
  Ms : (dsn psn raw : ℕ) → Element
  Pty : (dsn psn raw : ℕ) → Element
  Rt : (dsn psn : ℕ) (part : Part) → Element
  Select : (dsn : ℕ) → Element
  Group : (kind mode block3 block4 : ℕ) → Element
  Ack : (code counter : ℕ) → Element

-- The bytes of an element, the code first, one line for each code of the table.
abbrev pub spelling : Element → List ℕ
-- PI (SPB 490, element 01)
spelling (Pi dsn psn pi) = 0x01 ∷ dsn ∷ psn ∷ high_first pi
-- PS (SPB 490, element 02)
spelling (Ps dsn psn name) = 0x02 ∷ dsn ∷ psn ∷ name
-- TA/TP (SPB 490, element 03; the bits of raw are the profile's)
spelling (TaTp dsn psn raw) = 0x03 ∷ dsn ∷ psn ∷ raw ∷ []
-- MS (SPB 490, element 05; the bits of raw are the profile's)
spelling (Ms dsn psn raw) = 0x05 ∷ dsn ∷ psn ∷ raw ∷ []
-- PTY (SPB 490, element 07)
spelling (Pty dsn psn raw) = 0x07 ∷ dsn ∷ psn ∷ raw ∷ []
-- RadioText that empties a buffer (SPB 490, element 0A, with the length 00 of the profile)
spelling (Rt dsn psn NoText) = 0x0A ∷ dsn ∷ psn ∷ 0x00 ∷ []
-- RadioText: the length counts the head and the text (SPB 490, element 0A; the bits of head are the profile's)
spelling (Rt dsn psn (Text head text)) = 0x0A ∷ dsn ∷ psn ∷ (length text + 1) ∷ head ∷ text
-- acknowledgement (profile, element 18)
spelling (Ack code counter) = 0x18 ∷ code ∷ counter ∷ []
-- data set select (SPB 490, element 1C)
spelling (Select dsn) = 0x1C ∷ dsn ∷ []
-- free-format group (profile, element 24)
spelling (Group kind mode block3 block4) = 0x24 ∷ kind ∷ mode ∷ (high_first block3 ++ high_first block4)

-- Whether an element begins with this byte (the codes of the table above).
abbrev pub is_known : ℕ → Bool
is_known code =
    code == 0x01 || code == 0x02 || code == 0x03 || code == 0x05 || code == 0x07 || code == 0x0A || code == 0x18 || code
    == 0x1C || code == 0x24

-- What an element may hold: a name has 8 bytes (SPB 490, element 02), and a text at most 64 (SPB 490, element 0A).
abbrev pub IsElement : Element → Type 0
IsElement (Ps dsn psn name) = length name ≡ 8
IsElement (Rt dsn psn (Text head text)) = length text ≤ 64
IsElement _ = Unit {0}

-- These bytes spell the element.
abbrev pub Spells : Element → List ℕ → Type 0
Spells e bytes = IsElement e × (bytes ≡ spelling e)

-- No element's spelling stands at the front of r.
abbrev pub BeginsWithNone : List ℕ → Type 0
BeginsWithNone r = (e : Element) (bytes more : List ℕ) → Spells e bytes → r ≡ bytes ++ more → ⊥

-- What a message reads as: its elements in order, and the fault that ended them early, where one did.
pub record Reading : Type 0 where
  pub elements : List Element
  pub fault : Option ElementFault

-- How a reading ends where the bytes r are left of a message of this length: cleanly where none are left; else with a
-- fault at the place of the first of them, of code 03 where no element begins with that byte, else 07 (profile).
abbrev pub EndsWith : ℕ → List ℕ → Option ElementFault → Type 0
EndsWith len r None = r ≡ []
EndsWith len r (Some fault) =
    (r ≢ []) × BeginsWithNone r × (fault.place ≡ len - length r)
    × (fault.code ≡ (if is_known (slice_index r 0) then ElementLength else UnknownElement))

-- The message m reads so: it is the elements' spellings, joined, and a rest with which the reading ends.
pub record Reads (m : List ℕ) (reading : Reading) : Type 0 where
  pub rest : List ℕ
  pub each : AllByRecursion IsElement reading.elements
  pub joined : m ≡ flat_map spelling reading.elements ++ rest
  pub end : EndsWith (length m) rest reading.fault

-- Each number of the list is a byte.
abbrev pub AreBytes : List ℕ → Type 0
AreBytes m = AllByRecursion (λ b. b < 0x100) m

-- Law: no spelling is a prefix of another element's.
abbrev pub IsPrefixFree : Type 0
IsPrefixFree = (d e : Element) (x y more : List ℕ) → Spells d x → Spells e y → x ++ more ≡ y → (d ≡ e) × (more ≡ [])
