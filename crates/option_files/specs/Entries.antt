-- What a text of TOML says of options (profile).
use Rattle.std.specs.Prelude.{◌≡◌, ◌⊎◌, ℕ, ◌==◌, Bool, true, false, not, ◌&&◌, ◌||◌, List, [], ◌∷◌, ◌++◌, codes}
use Rattle.std.specs.Prelude.{Option, Some, None, if◌then◌else◌, option_map, option_and_then, length, nat_le}
use Rattle.std.specs.List.{list_all}
use Rattle.std.specs.Fmt.{signed_decimal}
use Rattle.std.specs.String.{string_bytes}
use Rattle.std.specs.Str.{bytes_eq}
use Rattle.toml.specs.Data.{Data, string, integer, float, boolean, datetime, array, table, Members, no_members, member}
use Rattle.toml.specs.Parse.{parse_document}
use Rattle.option_files.specs.Words.{Text, Entry, flag}
use Rattle.option_files.specs.declared.entries.Entry.{Entry as EntryValue}
use Rattle.option_files.specs.declared.entries_fault.EntriesFault.{EntriesFault}
use Rattle.option_files.specs.declared.entries_fault.EntriesFault.TheVariants.{NotToml, NotAName, NotAValue}
use Rattle.option_files.specs.declared.entries_fault.EntriesFault.TheVariants.{OutOfMemory}

-- An entry as its name and its word.
abbrev pub entry_view : EntryValue → Entry
entry_view entry = (string_bytes entry.name, option_map string_bytes entry.word)

-- A byte of an option's name: a small letter or a hyphen.
abbrev pub is_letter : ℕ → Bool
is_letter b = (nat_le 97 b && nat_le b 122) || b == 45

-- A name that no file may give: the file's own, its check's, and that of the help.
abbrev pub is_kept : Text → Bool
is_kept name = bytes_eq name (codes "config") || (bytes_eq name (codes "check-config") || bytes_eq name (codes "help"))

-- The name of an option that a file may give.
abbrev pub is_name : Text → Bool
is_name name = not (is_kept name) && (list_all is_letter name && not (length name == 0))

-- The word that gives an option a value.
abbrev pub valued : (name value : Text) → Text
valued name value = (flag name ++ codes "=") ++ value

-- What a value gives: a string or an integer a word with it, true the flag, false no word. No other is one.
abbrev pub word_of : (name : Text) → Data → Option (Option Text)
word_of name (string text) = Some (Some (valued name text))
word_of name (integer number) = Some (Some (valued name (signed_decimal number)))
word_of name (boolean true) = Some (Some (flag name))
word_of name (boolean false) = Some None
word_of name (float number) = None
word_of name (datetime moment) = None
word_of name (array items) = None
word_of name (table inner) = None

-- The entry of a key with its value, if it is one.
abbrev pub entry_of : (name : Text) → Data → Option Entry
entry_of name value = if is_name name then option_map (λ word. (name, word)) (word_of name value) else None

-- An entry and those behind it, where all are there.
abbrev pub both : Option Entry → Option (List Entry) → Option (List Entry)
both None entries = None
both (Some entry) None = None
both (Some entry) (Some entries) = Some (entry ∷ entries)

-- The entries of a table, where each of its keys is one.
abbrev pub entries_of : Members → Option (List Entry)
entries_of no_members = Some []
entries_of (member name value rest) = both (entry_of name value) (entries_of rest)

-- The text is TOML, and these are its entries.
abbrev pub Gives : (text : Text) → List Entry → Type 0
Gives text entries = option_and_then entries_of (parse_document text) ≡ Some entries

-- The table has this key with this value.
abbrev pub Has : (name : Text) → Data → Members → Type 0
Has name value no_members = ⊥
Has name value (member key held rest) = ((name ≡ key) × (value ≡ held)) ⊎ Has name value rest

-- Why a key with its value is no entry: it is no name, or the value is none. Or there was no memory.
abbrev pub RefusesEntry : (name : Text) → Data → EntriesFault → Type 0
RefusesEntry name value (NotToml error) = ⊥
RefusesEntry name value (NotAName key) = (string_bytes key ≡ name) × (is_name name ≡ false)
RefusesEntry name value (NotAValue key) = (string_bytes key ≡ name) × (word_of name value ≡ None)
RefusesEntry name value OutOfMemory = Unit {0}

-- Why a table gives no entries: one of its keys is no name, or its value is none. Or there was no memory.
abbrev pub RefusesTable : (read : Members) → EntriesFault → Type 0
RefusesTable read (NotToml error) = ⊥
RefusesTable read (NotAName key) =
    (value : Data) × Has (string_bytes key) value read × (is_name (string_bytes key) ≡ false)
RefusesTable read (NotAValue key) =
    (value : Data) × Has (string_bytes key) value read × (word_of (string_bytes key) value ≡ None)
RefusesTable read OutOfMemory = Unit {0}

-- The text is TOML, and its table gives no entries for this reason.
abbrev pub RefusesDocument : Option Members → EntriesFault → Type 0
RefusesDocument None fault = ⊥
RefusesDocument (Some read) fault = RefusesTable read fault

-- Why a text gives no entries: it is no TOML, or its table gives none. Or there was no memory.
abbrev pub Refuses : (text : Text) → EntriesFault → Type 0
Refuses text (NotToml error) = parse_document text ≡ None
Refuses text (NotAName key) = RefusesDocument (parse_document text) (NotAName key)
Refuses text (NotAValue key) = RefusesDocument (parse_document text) (NotAValue key)
Refuses text OutOfMemory = Unit {0}
