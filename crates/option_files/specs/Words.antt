-- What the words of a command line say of options, and what a file's entries add to them (profile).
use Rattle.std.specs.Prelude.{ℕ, ◌==◌, Bool, List, [], ◌∷◌, ◌++◌, take, drop, codes, Option, Some, None}
use Rattle.std.specs.Prelude.{if◌then◌else◌, is_some, option_map, option_and_then, option_to_list, unwrap_or}
use Rattle.std.specs.List.{list_any}
use Rattle.std.specs.Str.{bytes_eq}

-- The bytes of a word, or of a name.
abbrev pub Text : Type 0
Text = List ℕ

-- What stands in a word behind these bytes, if it begins with them.
abbrev pub behind : (front word : Text) → Option Text
behind [] word = Some word
behind (b ∷ front) [] = None
behind (b ∷ front) (c ∷ word) = if b == c then behind front word else None

-- What stands behind the name of an option: nothing, or its value behind an equals sign.
abbrev pub value_in : Text → Option (Option Text)
value_in [] = Some None
value_in (b ∷ rest) = option_map Some (behind (codes "=") (b ∷ rest))

-- What a word says of the option of this name: nothing of it, that it is named, or its value.
abbrev pub said : (name word : Text) → Option (Option Text)
said name word = option_and_then value_in (option_and_then (behind name) (behind (codes "--") word))

-- The words up to a word `--`.
abbrev pub up_to_end : List Text → List Text
up_to_end [] = []
up_to_end (word ∷ words) = if bytes_eq word (codes "--") then [] else word ∷ up_to_end words

-- The words of a command line that may name options: those behind the program's name and the command's.
abbrev pub option_words : List Text → List Text
option_words words = up_to_end (drop 2 words)

-- The words name the option of this name.
abbrev pub names : (name : Text) → (words : List Text) → Bool
names name words = list_any (λ word. is_some (said name word)) (option_words words)

-- The first of some words.
abbrev pub first : List Text → Option Text
first [] = None
first (word ∷ words) = Some word

-- The path that a word gives: its value, or the next word; else the path of the words behind it.
abbrev pub path_by : Option (Option Text) → (words : List Text) → (later : Option Text) → Option Text
path_by None words later = later
path_by (Some None) words later = first words
path_by (Some (Some path)) words later = Some path

-- The path of the file that some words name.
abbrev pub file_in : List Text → Option Text
file_in [] = None
file_in (word ∷ words) = path_by (said (codes "config") word) words (file_in words)

-- An entry of a file: the name of an option, and the word that gives it, if one does.
abbrev pub Entry : Type 0
Entry = Text × Option Text

-- The word that sets a flag.
abbrev pub flag : (name : Text) → Text
flag name = codes "--" ++ name

-- The word of an entry, unless the words name its option.
abbrev pub word_beside : (words : List Text) → Entry → List Text
word_beside words entry = if names entry.0 words then [] else option_to_list entry.1

-- The words of the entries whose options the words do not name.
abbrev pub words_beside : (words : List Text) → List Entry → List Text
words_beside words [] = []
words_beside words (entry ∷ entries) = word_beside words entry ++ words_beside words entries

-- The words of a command line, with those of a file's entries behind the command's name.
abbrev pub words_with : (words : List Text) → List Entry → List Text
words_with words entries = take 2 words ++ (words_beside words entries ++ drop 2 words)

-- The words that try an entry alone: the names, and its word, or the flag of its option where it gives none.
abbrev pub words_to_try : (words : List Text) → Entry → List Text
words_to_try words entry = take 2 words ++ unwrap_or entry.1 (flag entry.0) ∷ []
