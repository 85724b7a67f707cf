-- Standard input as lines, and what a line says (profile).
use Rattle.std.specs.Prelude.{ℕ, ◌+◌, ◌-◌, ◌==◌, Bool, List, [], ◌∷◌, length, take, drop, codes, Option, Some, None}
use Rattle.std.specs.Prelude.{if◌then◌else◌}
use Rattle.std.specs.List.{prefix_len, suffix_len, onto_first}
use lib.Pointwise.{pointwise}

-- The lines of an input, each with the line feed that ends it; what follows the last line feed is a line as well, if
-- anything does.
unfoldable pub lines_of : List ℕ → List (List ℕ)
lines_of [] = []
lines_of (byte ∷ rest) = if byte == 0x0A then (byte ∷ []) ∷ lines_of rest else onto_first byte (lines_of rest)

-- A line ends in these bytes.
abbrev pub ends_in : (line end : List ℕ) → Bool
ends_in line end = pointwise (λ a b. a == b) (drop (length line - length end) line) end

-- A line without its line feed, and without one carriage return before that. A line with no line feed stays whole.
abbrev pub without_end : List ℕ → List ℕ
without_end line =
    if ends_in line (codes "\r\n") then take (length line - 2) line
    else if ends_in line (codes "\n") then take (length line - 1) line
    else line

-- The byte of a space.
abbrev pub is_space : ℕ → Bool
is_space byte = byte == 0x20

-- A text without the spaces at its end.
abbrev pub without_last_spaces : List ℕ → List ℕ
without_last_spaces text = take (length text - suffix_len is_space text) text

-- A text without the spaces at its start and at its end.
abbrev pub trimmed : List ℕ → List ℕ
trimmed text = without_last_spaces (drop (prefix_len is_space text) text)

-- A text that is neither empty nor a comment.
abbrev pub unless_comment : List ℕ → Option (List ℕ)
unless_comment [] = None
unless_comment (byte ∷ text) = if byte == 0x23 then None else Some (byte ∷ text)

-- What a line says: what stands between its spaces, or nothing where that is empty or a comment.
abbrev pub said : List ℕ → Option (List ℕ)
said line = unless_comment (trimmed (without_end line))

-- A text, if there is one, under this number before others.
abbrev pub under : ℕ → Option (List ℕ) → List (ℕ × List ℕ) → List (ℕ × List ℕ)
under number None rest = rest
under number (Some text) rest = (number, text) ∷ rest

-- What the lines say, each with its number, from this number on.
unfoldable pub numbered : ℕ → List (List ℕ) → List (ℕ × List ℕ)
numbered number [] = []
numbered number (line ∷ lines) = under number (said line) (numbered (number + 1) lines)

-- The texts of an input: what its lines say, each with its line's number, counted from 1.
abbrev pub texts_of : List ℕ → List (ℕ × List ℕ)
texts_of input = numbered 1 (lines_of input)
