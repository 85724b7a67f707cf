-- The words of a line, and what they spell (profile).
use denote.Ref.{Bor}
use Rattle.std.specs.Prelude.{◌≡◌, ◌⊎◌, ℕ, ◌+◌, ◌-◌, ◌*◌, nat_le, ◌==◌, not, ◌&&◌, if◌then◌else◌, List, [], ◌∷◌, length}
use Rattle.std.specs.Prelude.{codes, fold, filter, map, Option, Some, None, Result, Ok}
use Rattle.std.specs.List.{slice_split, list_all}
use Rattle.std.specs.Char.{is_ascii_digit}
use Rattle.hex.specs.Hex.{decode_of, decode_sized}
use Rattle.hex.specs.declared.FromHexError.{FromHexError}
use Rattle.uecp_frame.specs.Frame.{high_first}

-- The bytes of words, without where they lie in memory.
abbrev pub texts : List (Bor (List ℕ)) → List (List ℕ)
texts words = map (λ w. w.now) words

-- The words of a text are its longest parts without a space.
unfoldable pub words : List ℕ → List (List ℕ)
words text = filter (λ w. not (length w == 0)) (slice_split (λ b. b == 32) text)

-- The bytes of a piece: what its hexadecimal digits spell, the spaces taken out.
abbrev pub bytes_in : List ℕ → Result (List ℕ) FromHexError
bytes_in text = decode_of (filter (λ byte. not (byte == 0x20)) text)

-- The number that decimal digits spell, the bytes 48 to 57.
unfoldable pub decimal_value : List ℕ → ℕ
decimal_value digits = fold (λ n d. n * 10 + (d - 48)) 0 digits

-- The number that a word of one or more decimal digits spells, where it is at most this one.
unfoldable pub decimal_in : (most : ℕ) → List ℕ → Option ℕ
decimal_in most word = if not (length word == 0) && list_all is_ascii_digit word
    && nat_le (decimal_value word) most then Some (decimal_value word) else None

-- Two hexadecimal digits spell a byte.
abbrev pub IsByte : (word : List ℕ) → ℕ → Type 0
IsByte word byte = decode_sized word 1 ≡ Ok (byte ∷ [])

-- Four hexadecimal digits spell a number.
abbrev pub IsNumber : (word : List ℕ) → ℕ → Type 0
IsNumber word number = decode_sized word 2 ≡ Ok (high_first number)

-- A word of hexadecimal digits, two for each, spells a row of bytes; a hyphen spells none.
abbrev pub IsRow : (word bytes : List ℕ) → Type 0
IsRow word bytes = ((word ≡ codes "-") × (bytes ≡ [])) ⊎ (decode_of word ≡ Ok bytes)
