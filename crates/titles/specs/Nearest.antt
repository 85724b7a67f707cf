-- What is nearest in the basic character set of RDS to a character that is not in it. Characters are their Unicode
-- numbers (profile).
use Rattle.std.specs.Prelude.{ℕ, Bool, ◌==◌, ◌&&◌, ◌||◌, nat_le, nat_lt, List, codes, Option, Some, None}
use Rattle.std.specs.Prelude.{if◌then◌else◌}

-- It lies from one character to another.
abbrev pub lies : (first last character : ℕ) → Bool
lies first last character = nat_le first character && nat_le character last

-- A control character, or a space of another width.
abbrev pub is_blank : ℕ → Bool
is_blank c =
    nat_lt c 0x20 || lies 0x7F 0xA0 c || lies 0x2000 0x200A c || c == 0x2028 || c == 0x2029 || c == 0x202F
    || c == 0x205F || c == 0x3000

-- An apostrophe, or a single quote: ` ´ ʻ ʼ ‘ ’ ‚ ‛ ′ ‹ ›
abbrev pub is_apostrophe : ℕ → Bool
is_apostrophe c =
    c == 0x60 || c == 0xB4 || c == 0x2BB || c == 0x2BC || lies 0x2018 0x201B c || c == 0x2032 || c == 0x2039
    || c == 0x203A

-- A quote: « » “ ” „ ‟ ″
abbrev pub is_quote : ℕ → Bool
is_quote c = c == 0xAB || c == 0xBB || lies 0x201C 0x201F c || c == 0x2033

-- A dash, a hyphen, a dot in the middle or a tilde: ~ · ‐ ‑ ‒ – — • −
abbrev pub is_dash : ℕ → Bool
is_dash c = c == 0x7E || c == 0xB7 || lies 0x2010 0x2014 c || c == 0x2022 || c == 0x2212

-- Not seen: a soft hyphen, a joiner, a mark of direction or of byte order.
abbrev pub is_unseen : ℕ → Bool
is_unseen c =
    c == 0xAD || lies 0x200B 0x200F c || lies 0x202A 0x202E c || lies 0x2060 0x2069 c || c == 0xFEFF

-- The letters or signs for a letter with a stroke, a ligature that has no parts, or a sign:
-- Đ Ħ ħ ĸ Ł ł ẞ ƒ ə ¢ ¥ ® × ⁄ ^
abbrev pub nearest_letters : ℕ → Option (List ℕ)
nearest_letters c =
    if c == 0x110 then Some (codes "D")
    else if c == 0x126 then Some (codes "H")
    else if c == 0x127 then Some (codes "h")
    else if c == 0x138 then Some (codes "k")
    else if c == 0x141 then Some (codes "L")
    else if c == 0x142 then Some (codes "l")
    else if c == 0x1E9E then Some (codes "SS")
    else if c == 0x192 then Some (codes "f")
    else if c == 0x259 then Some (codes "e")
    else if c == 0xA2 then Some (codes "c")
    else if c == 0xA5 then Some (codes "Y")
    else if c == 0xAE then Some (codes "(R)")
    else if c == 0xD7 then Some (codes "x")
    else if c == 0x2044 then Some (codes "/")
    else if c == 0x5E then Some (codes "'")
    else None

-- What is nearest to a character, where something is near: bytes of the set, which are ASCII's.
unfoldable pub nearest : ℕ → Option (List ℕ)
nearest c =
    if is_blank c then Some (codes " ")
    else if is_apostrophe c then Some (codes "'")
    else if is_quote c then Some (codes "\"")
    else if is_dash c then Some (codes "-")
    else if is_unseen c then Some (codes "")
    else nearest_letters c
