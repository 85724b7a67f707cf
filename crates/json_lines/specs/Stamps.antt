-- What a clock shows, as it stands before or within what is told (profile).
use Rattle.std.specs.Prelude.{◌≡◌, ◌⊎◌, ℕ, nat_le, nat_lt, ◌==◌, ◌&&◌, not, Bool, false, Some, List, ◌++◌, codes}
use Rattle.std.specs.Prelude.{IsTrue}
use Rattle.std.specs.List.{list_all}
use Rattle.jiff_core.specs.declared.civil.datetime.DateTime.{DateTime}
use Rattle.jiff_fmt.specs.Text.{datetime_text, zulu_text}

-- A printable character of ASCII that is no quote and no backslash stands for itself in JSON (RFC 8259, strings).
abbrev pub is_plain : ℕ → Bool
is_plain c = nat_le 0x20 c && nat_lt c 0x7F && not (c == 0x22) && not (c == 0x5C)

-- A clock in UTC shows this, to the millisecond, as 2026-11-25T12:03:07.412Z (RFC 3339, internet date and time format).
abbrev pub IsShown : List ℕ → Type 0
IsShown stamp = (shown : DateTime) × (stamp ≡ datetime_text false 0x54 (Some 3) shown ++ zulu_text false)

-- A stamp is what a clock in UTC shows, or `-` where the clock tells no time, and all of its characters are plain
-- (profile).
abbrev pub IsStamp : List ℕ → Type 0
IsStamp stamp = IsTrue (list_all is_plain stamp) × ((stamp ≡ codes "-") ⊎ IsShown stamp)
