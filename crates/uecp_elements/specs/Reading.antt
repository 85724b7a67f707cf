-- The reading of a message as the list of its items: its elements, and its fault last.
use Rattle.std.specs.Prelude.{◌≡◌, ◌⊎◌, ℕ, zero, suc, ◌+◌, ◌-◌, ◌*◌, ◌==◌, ◌&&◌, ◌≤◌, nat_le, if◌then◌else◌, List, []}
use Rattle.std.specs.Prelude.{◌∷◌, ◌++◌, map, length, drop, slice_index, slice_range, Option, Some, None, Result, Ok}
use Rattle.std.specs.Prelude.{Err}
use Rattle.uecp_elements.specs.declared.code.Code.{Code}
use Rattle.uecp_elements.specs.declared.code.Code.TheVariants.{UnknownElement, ElementLength}
use Rattle.uecp_elements.specs.declared.fault.ElementFault.{ElementFault}
use Rattle.uecp_elements.specs.Grammar.{Part, NoText, Text, Element, Pi, Ps, TaTp, Ms, Pty, Rt, Select, Group, Ack}
use Rattle.uecp_elements.specs.Grammar.{spelling, IsElement, Reading, Reads, AreBytes}

-- One item of a reading: an element, or the fault.
abbrev pub Item : Type 0
Item = Result Element ElementFault

-- The number of the two bytes from a place on, high byte first (SPB 490).
abbrev pub word_at : List ℕ → ℕ → ℕ
word_at r i = 0x100 * slice_index r i + slice_index r (i + 1)

-- The element where r has the n bytes of its spelling, else the fault's code (profile).
abbrev pub whole : ℕ → List ℕ → Element → Result Element Code
whole n r e = if nat_le n (length r) then Ok e else Err ElementLength

-- What a RadioText at the front of r carries: byte 3 counts the bytes from 4 on, the head first (SPB 490, element 0A;
-- 00 profile).
abbrev pub part_at : List ℕ → Part
part_at r = if slice_index r 3 == 0 then NoText else Text (slice_index r 4) (slice_range r 5 (4 + slice_index r 3))

-- The RadioText at the front of r: its count is at most 41, and all its bytes are there (SPB 490, element 0A).
abbrev pub text_at : List ℕ → Result Element Code
text_at r =
    if nat_le (slice_index r 3) 0x41 && nat_le 4 (length r) then whole (4 + slice_index r 3) r
    (Rt (slice_index r 1) (slice_index r 2) (part_at r))
    else Err ElementLength

-- The group at the front of r (profile, element 24).
abbrev pub group_at : List ℕ → Result Element Code
group_at r = whole 7 r (Group (slice_index r 1) (slice_index r 2) (word_at r 3) (word_at r 5))

-- The element at the front of r by its first byte, or the code of the fault (SPB 490 and profile, as in the grammar).
unfoldable pub first : List ℕ → Result Element Code
first r =
    if slice_index r 0 == 0x01 then whole 5 r (Pi (slice_index r 1) (slice_index r 2) (word_at r 3))
    else if slice_index r 0 == 0x02 then whole 11 r (Ps (slice_index r 1) (slice_index r 2) (slice_range r 3 11))
    else if slice_index r 0 == 0x03 then whole 4 r (TaTp (slice_index r 1) (slice_index r 2) (slice_index r 3))
    else if slice_index r 0 == 0x05 then whole 4 r (Ms (slice_index r 1) (slice_index r 2) (slice_index r 3))
    else if slice_index r 0 == 0x07 then whole 4 r (Pty (slice_index r 1) (slice_index r 2) (slice_index r 3))
    else if slice_index r 0 == 0x0A then text_at r
    else if slice_index r 0 == 0x18 then whole 3 r (Ack (slice_index r 1) (slice_index r 2))
    else if slice_index r 0 == 0x1C then whole 2 r (Select (slice_index r 1))
    else if slice_index r 0 == 0x24 then group_at r
    else Err UnknownElement

-- The bytes that are left of r behind the element at its front.
abbrev pub IsBehind : Element → List ℕ → List ℕ → Type 0
IsBehind e r left = (length (spelling e) ≤ length r) × (left ≡ drop (length (spelling e)) r)

-- The item that stands at a place, and behind an element the others; they are told how many more of its bytes to pass
-- over.
abbrev pub with_item : ℕ → Result Element Code → (ℕ → List Item) → List Item
with_item place (Ok e) others = Ok e ∷ others (length (spelling e) - 1)
with_item place (Err code) others = Err (record { place = place; code = code }) ∷ []

-- The items of the bytes from a place on, where some of them are passed over first.
unfoldable pub items_at : ℕ → ℕ → List ℕ → List Item
items_at place skip [] = []
items_at place zero (b ∷ r) = with_item place (first (b ∷ r)) (λ skip. items_at (place + 1) skip r)
items_at place (suc skip) (b ∷ r) = items_at (place + 1) skip r

-- The items of a message, in order.
abbrev pub items : List ℕ → List Item
items m = items_at 0 0 m

-- The fault of a reading as the last item, where there is one.
abbrev pub fault_item : Option ElementFault → List Item
fault_item None = []
fault_item (Some fault) = Err fault ∷ []

-- The items of a reading: its elements, and its fault last.
abbrev pub items_of : Reading → List Item
items_of reading = map Ok reading.elements ++ fault_item reading.fault

-- What an item may be: an element, or a fault of code 03 or 07 (profile).
abbrev pub IsItem : Item → Type 0
IsItem (Ok e) = IsElement e
IsItem (Err fault) = (fault.code ≡ UnknownElement) ⊎ (fault.code ≡ ElementLength)

-- The items that are given are those of a reading of the message.
abbrev pub IsRead : List ℕ → List Item → Type 0
IsRead m given = (reading : Reading) × Reads m reading × (given ≡ items_of reading)

-- Law: every message has a reading, whose items are the message's.
abbrev pub HasReading : Type 0
HasReading = (m : List ℕ) → AreBytes m → IsRead m (items m)

-- Law: no message has two readings.
abbrev pub HasOneReading : Type 0
HasOneReading = (m : List ℕ) → AreBytes m → (a b : Reading) → Reads m a → Reads m b → a ≡ b
