-- A store said: the elements that make it, and the lines in which they are written.
use Rattle.std.specs.Prelude.{ℕ, ◌+◌, ◌*◌, Bool, true, false, if◌then◌else◌, List, [], ◌∷◌, ◌++◌, map, flat_map, codes}
use Rattle.std.specs.Prelude.{encode_utf8_all}
use Rattle.std.specs.Option.{option_map_or}
use Rattle.std.specs.FinMap.{get}
use Rattle.uecp_elements.specs.Grammar.{Element, Pi, Ps, TaTp, Ms, Pty, Rt, NoText, Text, Select, Group}
use Rattle.rds_store.specs.declared.group.Group.{Group as WaitingGroup}
use Rattle.rds_store.specs.Value.{StoredText, ServiceData, Store}
use Rattle.rds_store.specs.Refusals.{set_numbers}
use Rattle.rds_text.specs.declared.programme_type.Region.{Region}
use Rattle.phrase_tokens.specs.Tokens.{written_tokens}
use Rattle.uecp_phrases.specs.Written.{phrase_of}

-- ---- Elements.

-- Buffer rule 00 replaces what is there and rule 10 adds behind it, in bits 6 and 5. (profile)
abbrev pub rule_bits : (adds : Bool) → ℕ
rule_bits adds = if adds then 0x40 else 0x00

-- A flag is bit 0. (profile)
abbrev pub flag_bit : Bool → ℕ
flag_bit is_set = if is_set then 1 else 0

-- TP in bit 1 and TA in bit 0. (SPB 490, TA/TP; bits: profile)
abbrev pub traffic_byte : ServiceData → ℕ
traffic_byte s = 2 * flag_bit s.tp + flag_bit s.ta

-- The first byte of a RadioText: its buffer rule, how often it is sent from bit 1 on, its toggle in bit 0. (SPB 490,
-- RadioText; bits: profile)
abbrev pub head_byte : (adds : Bool) → StoredText → ℕ
head_byte adds t = rule_bits adds + (2 * t.transmissions + flag_bit t.toggle)

-- What a service has but for its texts: PI, PS, TA/TP, MS and PTY. (SPB 490, elements 01, 02, 03, 05 and 07)
abbrev pub values_said : (set number : ℕ) → ServiceData → List Element
values_said set number s =
    Pi set number s.pi ∷ Ps set number s.ps ∷ TaTp set number (traffic_byte s) ∷ Ms set number (flag_bit s.music)
    ∷ Pty set number s.pty ∷ []

-- One text, which replaces those that are there or is added to them. (SPB 490, element 0A)
abbrev pub text_said : (set number : ℕ) → (adds : Bool) → StoredText → Element
text_said set number adds t = Rt set number (Text (head_byte adds t) t.bytes)

-- The texts: an empty RadioText where there is none, else the first replaces and each other is added. (profile)
abbrev pub texts_said : (set number : ℕ) → List StoredText → List Element
texts_said set number [] = Rt set number NoText ∷ []
texts_said set number (t ∷ ts) = text_said set number false t ∷ map (text_said set number true) ts

-- A service in a set, addressed by the numbers of both: its values, then its texts. (profile)
abbrev pub service_said : (set number : ℕ) → ServiceData → List Element
service_said set number s = values_said set number s ++ texts_said set number s.texts

-- The service of that number in a set, or nothing where the store has none there. (profile)
unfoldable pub said_at : Store → (set number : ℕ) → List Element
said_at v set number = option_map_or (service_said set number) (get v.places (set, number)) []

-- The services of a set, in configured order. (profile)
abbrev pub set_said : Store → (set : ℕ) → List Element
set_said v set = flat_map (said_at v set) v.services

-- A group that waits, which replaces those that wait or is added behind them. (profile, element 24)
abbrev pub group_said : (adds : Bool) → WaitingGroup → Element
group_said adds g = Group g.kind (rule_bits adds + g.bits) g.block3 g.block4

-- The groups: the first replaces and each other is added; where none waits, none is said. (profile)
abbrev pub groups_said : List WaitingGroup → List Element
groups_said [] = []
groups_said (g ∷ gs) = group_said false g ∷ map (group_said true) gs

-- A store: the services of each set, set 1 first; the groups that wait, the first first; the current set. (profile)
abbrev pub said_of : Store → List Element
said_of v = flat_map (set_said v) (set_numbers v.sets) ++ (groups_said v.groups ++ Select v.current ∷ [])

-- ---- Lines.

-- The line of an element: its phrase in UTF-8, and a line feed. (profile)
unfoldable pub line : Region → Element → List ℕ
line region e = encode_utf8_all (written_tokens (phrase_of region e)) ++ codes "\n"

-- The lines of elements, one for each. (profile)
abbrev pub lines : Region → List Element → List ℕ
lines region elements = flat_map (line region) elements

-- The lines of a store. (profile)
abbrev pub said_lines : Region → Store → List ℕ
said_lines region v = lines region (said_of v)
