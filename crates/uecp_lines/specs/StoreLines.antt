-- The lines of a store (profile).
use Rattle.std.specs.Prelude.{Bool, if◌then◌else◌, ℕ, List, [], ◌++◌, codes, length, flat_map}
use Rattle.std.specs.Option.{option_map_or}
use Rattle.std.specs.FinMap.{get}
use Rattle.rds_store.specs.declared.group.Group.{Group}
use Rattle.rds_store.specs.Value.{StoredText, ServiceData, Store}
use Rattle.rds_store.specs.Refusals.{set_numbers}
use Rattle.uecp_text.specs.Digits.{byte_word, number_word, row_word, decimal_word, counted, flagged}

-- Where a service stands: its set in decimal, and its number.
abbrev pub place_words : (set number : ℕ) → List ℕ
place_words set number = counted (codes "service") set ++ byte_word number

-- The PI and the name of a service.
unfoldable pub name_words : ServiceData → List ℕ
name_words s = number_word s.pi ++ row_word s.ps

-- The flags of a service: traffic programme, traffic announcement, music.
unfoldable pub flag_words : ServiceData → List ℕ
flag_words s = flagged (codes " tp") s.tp ++ flagged (codes " ta") s.ta ++ flagged (codes " ms") s.music

-- What a service has, but for its texts: the programme type comes last.
abbrev pub value_words : ServiceData → List ℕ
value_words s = name_words s ++ flag_words s ++ codes " pty" ++ byte_word s.pty

-- The line of a text: its toggle, how often it is sent, and its characters.
abbrev pub text_line : StoredText → List ℕ
text_line t = flagged (codes "text") t.toggle ++ decimal_word t.transmissions ++ row_word t.bytes ++ codes "\n"

-- How many texts there are, which ends the service's line, and a line for each, oldest first.
abbrev pub texts_lines : List StoredText → List ℕ
texts_lines texts = counted (codes " texts") (length texts) ++ codes "\n" ++ flat_map text_line texts

-- A group: its type, the last five bits of block 2, and blocks 3 and 4.
unfoldable pub group_words : Group → List ℕ
group_words g = byte_word g.kind ++ byte_word g.bits ++ number_word g.block3 ++ number_word g.block4

-- The line of a group that waits.
abbrev pub group_line : Group → List ℕ
group_line g = codes "queued" ++ group_words g ++ codes "\n"

-- The lines of a service: where it stands, what it has, and its texts.
abbrev pub service_lines : (set number : ℕ) → ServiceData → List ℕ
service_lines set number s = place_words set number ++ value_words s ++ texts_lines s.texts

-- The lines of the service of that number in a set, or nothing where the store has none there.
unfoldable pub lines_at : Store → (set number : ℕ) → List ℕ
lines_at v set number = option_map_or (service_lines set number) (get v.places (set, number)) []

-- The lines of the services of a set, in configured order.
abbrev pub set_lines : Store → (set : ℕ) → List ℕ
set_lines v set = flat_map (lines_at v set) v.services

-- The lines of a store: the current set, the services of each set, set 1 first, and the groups that wait, the first
-- first.
abbrev pub store_lines : Store → List ℕ
store_lines v =
    counted (codes "current") v.current ++ codes "\n" ++ flat_map (set_lines v) (set_numbers v.sets)
    ++ flat_map group_line v.groups

-- The lines of the store come last where they are asked for.
abbrev pub last_lines : (asked : Bool) → Store → List ℕ
last_lines asked store = if asked then store_lines store else []
