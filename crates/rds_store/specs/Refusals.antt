-- With which code a store answers an element.
use Rattle.std.specs.Prelude.{ℕ, zero, suc, ◌==◌, ◌+◌, Bool, true, false, not, ◌&&◌, ◌||◌, nat_lt, List, [], ◌∷◌}
use Rattle.std.specs.Prelude.{length, if◌then◌else◌, is_none}
use Rattle.std.specs.Option.{option_map_or}
use Rattle.std.specs.List.{list_any}
use Rattle.std.specs.FinMap.{get}
use Rattle.uecp_elements.specs.declared.code.Code.{Code}
use Rattle.uecp_elements.specs.declared.code.Code.TheVariants.{Applied, DataSet, Service, OutOfRange, NotHere}
use Rattle.uecp_elements.specs.declared.code.Code.TheVariants.{BufferFull}
use Rattle.uecp_elements.specs.Grammar.{Element, Pty, Rt, Text, Select, Group, Ack}
use Rattle.rds_store.specs.Value.{ServiceData, Data, Store}
use Rattle.rds_store.specs.Names.{address, names_set, is_dsn, service_of}
use Rattle.rds_store.specs.Content.{adds, is_wrong_rule}

-- 09: an acknowledgement has no place in an encoder. (profile)
abbrev pub is_not_here : Element → Bool
is_not_here (Ack c counter) = true
is_not_here _ = false

-- 04: a selection is of set 00 or of the number of a set that is there, never FE or FF; another element's DSN is one
-- that can be written. (profile)
abbrev pub is_wrong_set : Store → Element → Bool
is_wrong_set v (Select dsn) = dsn == 0xFE || dsn == 0xFF || nat_lt v.sets dsn
is_wrong_set v e = option_map_or (λ a. not (is_dsn v.sets a.0)) (address e) false

-- 05: the PSN is neither 00 nor listed. (profile)
abbrev pub is_wrong_service : Store → Element → Bool
is_wrong_service v e = option_map_or (λ a. is_none (service_of v.services a.1)) (address e) false

-- 06: a PTY above 1F, a group type above 1F, or a buffer rule that is out of range. (profile)
abbrev pub is_out_of_range : Element → Bool
is_out_of_range (Pty dsn psn raw) = nat_lt 0x1F raw
is_out_of_range (Rt dsn psn (Text head bytes)) = is_wrong_rule head
is_out_of_range (Group kind mode block3 block4) = nat_lt 0x1F kind || is_wrong_rule mode
is_out_of_range _ = false

-- The element is a text that is added to those that are there. (profile)
abbrev pub adds_text : Element → Bool
adds_text (Rt dsn psn (Text head bytes)) = adds head
adds_text _ = false

-- n numbers from `first` on.
abbrev pub count_up : (n first : ℕ) → List ℕ
count_up zero first = []
count_up (suc n) first = first ∷ count_up n (first + 1)

-- The numbers of the sets, 1 to their number. (SPB 490, data set number)
abbrev pub set_numbers : (sets : ℕ) → List ℕ
set_numbers sets = count_up sets 1

-- A service has room for 8 texts. (profile)
abbrev pub is_full : ServiceData → Bool
is_full s = length s.texts == 8

-- The service has 8 texts in that set. (profile)
abbrev pub is_full_in : Data → (set service : ℕ) → Bool
is_full_in places set service = option_map_or is_full (get places (set, service)) false

-- The service has 8 texts in one of the sets that the DSN names. (profile)
abbrev pub has_full_set : Store → (dsn service : ℕ) → Bool
has_full_set v dsn service = list_any (λ set. names_set dsn v.current set && is_full_in v.places set service)
    (set_numbers v.sets)

-- 0B: an added text finds 8 texts at its service in one of its sets, or an added group finds 32 groups. (profile)
abbrev pub has_no_room : Store → Element → Bool
has_no_room v (Rt dsn psn (Text head bytes)) = adds head
    && option_map_or (has_full_set v dsn) (service_of v.services psn) false
has_no_room v (Group kind mode block3 block4) = adds mode && (length v.groups == 32)
has_no_room v _ = false

-- The first of 09, 04, 05, 06, 0B that holds, else 00; they are asked even where the DSN names no set. (profile)
abbrev pub code_of : Store → Element → Code
code_of v e =
    if is_not_here e then NotHere
    else if is_wrong_set v e then DataSet
    else if is_wrong_service v e then Service
    else if is_out_of_range e then OutOfRange
    else if has_no_room v e then BufferFull
    else Applied
