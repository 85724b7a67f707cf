-- Which data sets and which service an element names.
use Rattle.std.specs.Prelude.{ℕ, ◌==◌, Bool, true, false, not, ◌&&◌, nat_le, List, slice_get, ◌||◌, if◌then◌else◌}
use Rattle.std.specs.Prelude.{Option, Some, None}
use Rattle.std.specs.Option.{option_map_or}
use Rattle.std.specs.List.{list_any}
use Rattle.uecp_elements.specs.Grammar.{Element, Pi, Ps, TaTp, Ms, Pty, Rt, NoText, Text, Select, Group, Ack}
use Rattle.rds_store.specs.Value.{Store}

-- The DSN and PSN of an element; selection, group and acknowledgement name no place. (SPB 490, element formats)
abbrev pub address : Element → Option (ℕ × ℕ)
address (Pi dsn psn n) = Some (dsn, psn)
address (Ps dsn psn name) = Some (dsn, psn)
address (TaTp dsn psn raw) = Some (dsn, psn)
address (Ms dsn psn raw) = Some (dsn, psn)
address (Pty dsn psn raw) = Some (dsn, psn)
address (Rt dsn psn NoText) = Some (dsn, psn)
address (Rt dsn psn (Text head bytes)) = Some (dsn, psn)
address (Select dsn) = None
address (Group kind mode block3 block4) = None
address (Ack c counter) = None

-- DSN 00 names the current set, FE all but the current, FF all, another number the set of that number. (SPB 490, data
-- set number)
abbrev pub names_set : (dsn current set : ℕ) → Bool
names_set dsn current set =
    if dsn == 0x00 then set == current
    else if dsn == 0xFE then not (set == current)
    else if dsn == 0xFF then true
    else set == dsn

-- DSN 00, FE and FF can always be written, another number where the set of that number is there. (SPB 490, data set
-- number)
abbrev pub is_dsn : (sets dsn : ℕ) → Bool
is_dsn sets dsn = if dsn == 0x00 || dsn == 0xFE || dsn == 0xFF then true else nat_le dsn sets

-- PSN 00 names the first service listed, a listed number itself, another number none. (SPB 490, programme service
-- number)
abbrev pub service_of : (services : List ℕ) → (psn : ℕ) → Option ℕ
service_of services psn =
    if psn == 0x00 then slice_get services 0
    else if list_any (λ s. psn == s) services then Some psn
    else None

-- A DSN and a PSN name each place whose set the one names and whose service the other names. (SPB 490, data sets and
-- programme services)
abbrev pub names_place : Store → (dsn psn : ℕ) → (place : ℕ × ℕ) → Bool
names_place v dsn psn place =
    names_set dsn v.current place.0 && option_map_or (λ service. service == place.1) (service_of v.services psn) false

-- The element names the place. (SPB 490, data sets and programme services)
abbrev pub names : Store → Element → (place : ℕ × ℕ) → Bool
names v e place = option_map_or (λ a. names_place v a.0 a.1 place) (address e) false
