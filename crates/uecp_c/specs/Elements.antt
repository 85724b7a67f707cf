-- Elements as C reads and writes them (profile).
use Rattle.std.specs.Prelude.{◌≡◌, ◌⊎◌, ◌≤◌, ℕ, ◌==◌, nat_le, if◌then◌else◌, List, [], ◌++◌, length, take, drop}
use Rattle.std.specs.Prelude.{slice_index, Option, Some, None}
use Rattle.std.specs.Option.{option_map, option_map_or}
use Rattle.uecp_elements.specs.declared.code.Code.TheVariants.{Applied, UnknownElement, ElementLength}
use Rattle.uecp_elements.specs.Codes.{byte_of}
use Rattle.uecp_elements.specs.Grammar.{Part, NoText, Text, Element, Pi, Ps, TaTp, Ms, Pty, Rt, Select, Group, Ack}
use Rattle.uecp_elements.specs.Grammar.{spelling, is_known, Spells, BeginsWithNone}
use Rattle.uecp_c.specs.declared.plain_element.PlainElement.{PlainElement}

-- ---- From C.

-- What a RadioText carries; there is no text of more than 64 bytes (profile).
abbrev pub told_part : PlainElement → Option Part
told_part p =
    if p.has_text == 0 then Some NoText
    else if nat_le p.length 64 then Some (Text p.head (take p.length p.text))
    else None

-- The element that begins with the byte of `code`, if one does, and has what the fields of the same names hold
-- (profile; the codes are those of the grammar's table).
abbrev pub told_element : PlainElement → Option Element
told_element p =
    if p.code == 0x01 then Some (Pi p.dsn p.psn p.pi)
    else if p.code == 0x02 then Some (Ps p.dsn p.psn p.name)
    else if p.code == 0x03 then Some (TaTp p.dsn p.psn p.raw)
    else if p.code == 0x05 then Some (Ms p.dsn p.psn p.raw)
    else if p.code == 0x07 then Some (Pty p.dsn p.psn p.raw)
    else if p.code == 0x0A then option_map (Rt p.dsn p.psn) (told_part p)
    else if p.code == 0x18 then Some (Ack p.reply p.counter)
    else if p.code == 0x1C then Some (Select p.dsn)
    else if p.code == 0x24 then Some (Group p.kind p.mode p.block3 p.block4)
    else None

-- The bytes of that element; none where there is none.
abbrev pub element_bytes : PlainElement → List ℕ
element_bytes p = option_map_or spelling (told_element p) []

-- ---- To C.

-- What a RadioText carries; of one that empties the buffer head, length and text stay (profile).
abbrev pub shown_part : PlainElement → Part → PlainElement
shown_part p NoText = record p { has_text = 0 }
shown_part p (Text head text) =
    record p { has_text = 1; head = head; length = length text; text = text ++ drop (length text) p.text }

-- The byte that an element begins with, and what it holds, in the fields of the same names; the others stay (profile).
abbrev pub shown_element : PlainElement → Element → PlainElement
shown_element p (Pi dsn psn pi) = record p { code = 0x01; dsn = dsn; psn = psn; pi = pi }
shown_element p (Ps dsn psn name) = record p { code = 0x02; dsn = dsn; psn = psn; name = name }
shown_element p (TaTp dsn psn raw) = record p { code = 0x03; dsn = dsn; psn = psn; raw = raw }
shown_element p (Ms dsn psn raw) = record p { code = 0x05; dsn = dsn; psn = psn; raw = raw }
shown_element p (Pty dsn psn raw) = record p { code = 0x07; dsn = dsn; psn = psn; raw = raw }
shown_element p (Rt dsn psn part) = shown_part (record p { code = 0x0A; dsn = dsn; psn = psn }) part
shown_element p (Select dsn) = record p { code = 0x1C; dsn = dsn }
shown_element p (Group kind mode block3 block4) =
    record p { code = 0x24; kind = kind; mode = mode; block3 = block3; block4 = block4 }
shown_element p (Ack code counter) = record p { code = 0x18; reply = code; counter = counter }

-- What is said of bytes at whose front no element is spelled: 03 where none begins with the first of them, or there are
-- none, else 07 (profile).
abbrev pub fault_byte : List ℕ → ℕ
fault_byte bytes = byte_of (if is_known (slice_index bytes 0) then ElementLength else UnknownElement)

-- The element that the bytes used at the front spell is shown, and 00 is said; or the bytes begin with no element's
-- spelling, nothing is used, all stays, and the code of that is said (profile).
abbrev pub ReadsFirst : (bytes : List ℕ) → (old new : PlainElement) → (used said : ℕ) → Type 0
ReadsFirst bytes old new used said =
    ((e : Element) × (used ≤ length bytes) × Spells e (take used bytes) × (new ≡ shown_element old e)
    × (said ≡ byte_of Applied))
    ⊎ (BeginsWithNone bytes × (used ≡ 0) × (new ≡ old) × (said ≡ fault_byte bytes))
