-- The objects of elements (profile).
use Rattle.std.specs.Prelude.{ℕ, List, [], ◌∷◌, ◌++◌, codes, true}
use Rattle.serde_json.specs.Data.{Data, boolean, string}
use Rattle.uecp_frame.specs.Frame.{high_first}
use Rattle.rds_store.specs.Bits.{bit_0, bit_1}
use Rattle.uecp_elements.specs.Grammar.{Part, NoText, Text, Element, Pi, Ps, TaTp, Ms, Pty, Rt, Select, Group, Ack}
use Rattle.json_lines.specs.Objects.{Field, object_of, in_decimal, in_digits, said_fields}

-- Blocks 3 and 4 of a group (SPB 490, free-format group).
abbrev pub block_fields : (block3 block4 : ℕ) → List Field
block_fields block3 block4 =
    (codes "block3", in_digits (high_first block3)) ∷ (codes "block4", in_digits (high_first block4)) ∷ []

-- The data set and the service that an element names (SPB 490, data sets and programme services).
abbrev pub place_fields : (dsn psn : ℕ) → List Field
place_fields dsn psn = (codes "set", in_decimal dsn) ∷ (codes "service", in_decimal psn) ∷ []

-- What a RadioText carries: nothing, which clears the buffer, or a head and a text (profile).
abbrev pub part_fields : Part → List Field
part_fields NoText = (codes "clear", boolean true) ∷ []
part_fields (Text head text) =
    (codes "head", in_digits (head ∷ [])) ∷ said_fields (codes "bytes") text

-- The name of an element (profile).
abbrev pub element_name : Element → List ℕ
element_name (Pi dsn psn pi) = codes "pi"
element_name (Ps dsn psn name) = codes "ps"
element_name (TaTp dsn psn raw) = codes "traffic"
element_name (Ms dsn psn raw) = codes "ms"
element_name (Pty dsn psn raw) = codes "pty"
element_name (Rt dsn psn part) = codes "rt"
element_name (Select dsn) = codes "select"
element_name (Group kind mode block3 block4) = codes "group"
element_name (Ack code counter) = codes "ack"

-- What an element holds: where it belongs, its content in a user's terms, and as bytes where those tell more
-- (profile).
abbrev pub element_fields : Element → List Field
element_fields (Pi dsn psn pi) = place_fields dsn psn ++ (codes "pi", in_digits (high_first pi)) ∷ []
element_fields (Ps dsn psn name) = place_fields dsn psn ++ said_fields (codes "name") name
element_fields (TaTp dsn psn raw) = place_fields dsn psn
    ++ (codes "tp", boolean (bit_1 raw)) ∷ (codes "ta", boolean (bit_0 raw)) ∷ (codes "bits", in_digits (raw ∷ [])) ∷ []
element_fields (Ms dsn psn raw) =
    place_fields dsn psn ++ (codes "music", boolean (bit_0 raw)) ∷ (codes "bits", in_digits (raw ∷ [])) ∷ []
element_fields (Pty dsn psn raw) = place_fields dsn psn ++ (codes "type", in_decimal raw) ∷ []
element_fields (Rt dsn psn part) = place_fields dsn psn ++ part_fields part
element_fields (Select dsn) = (codes "set", in_decimal dsn) ∷ []
element_fields (Group kind mode block3 block4) =
    (codes "type", in_digits (kind ∷ [])) ∷ (codes "mode", in_digits (mode ∷ [])) ∷ block_fields block3 block4
element_fields (Ack code counter) = (codes "code", in_digits (code ∷ [])) ∷ (codes "counter", in_decimal counter) ∷ []

-- The object of an element: its name and what it holds (profile).
abbrev pub element_object : Element → Data
element_object e = object_of ((codes "element", string (element_name e)) ∷ element_fields e)
