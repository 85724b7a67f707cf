-- What a member of an object of JSON says (profile).
use Rattle.std.specs.Prelude.{ℕ, ◌==◌, Bool, true, false, List, [], codes, Option, Some, None, option_and_then}
use Rattle.std.specs.Prelude.{unwrap_or}
use Rattle.std.specs.Prelude.{◌&&◌}
use Rattle.std.specs.Str.{bytes_eq}
use Rattle.serde_json.specs.Data.{Data}
use Rattle.serde_json.specs.Find.{get, as_str, as_bool, as_number, as_u64}

-- The text that a member is, or the truth value, or the whole number; None where it is none, or where there is none.
abbrev pub text_at : (key : List ℕ) → Data → Option (List ℕ)
text_at key d = option_and_then as_str (get key d)

abbrev pub flag_at : (key : List ℕ) → Data → Option Bool
flag_at key d = option_and_then as_bool (get key d)

abbrev pub number_at : (key : List ℕ) → Data → Option ℕ
number_at key d = option_and_then as_u64 (option_and_then as_number (get key d))

-- The same, or 0.
abbrev pub number_or_0 : (key : List ℕ) → Data → ℕ
number_or_0 key d = unwrap_or (number_at key d) 0

abbrev pub is_word : Option (List ℕ) → (word : List ℕ) → Bool
is_word None word = false
is_word (Some text) word = bytes_eq text word

-- A member is this text.
abbrev pub says : (key word : List ℕ) → Data → Bool
says key word d = is_word (text_at key d) word

abbrev pub is_flag : Option Bool → Bool
is_flag value = unwrap_or value false

-- An object of ours: its format is 1, and it has a kind.
abbrev pub is_format_1 : Option ℕ → Bool
is_format_1 None = false
is_format_1 (Some n) = n == 1

abbrev pub has_kind : Option (List ℕ) → Bool
has_kind None = false
has_kind (Some text) = true

abbrev pub is_ours : Data → Bool
is_ours d = is_format_1 (number_at (codes "format") d) && has_kind (text_at (codes "kind") d)

-- The name of the control line that an object is of; empty where it names none.
abbrev pub name_of : Data → List ℕ
name_of d = unwrap_or (text_at (codes "line") d) []
