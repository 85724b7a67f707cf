-- The words that lines of output are made of, each with the space before it (profile).
use Rattle.std.specs.Prelude.{ℕ, ◌==◌, Bool, List, [], ◌∷◌, ◌++◌, length, codes, decimal, if◌then◌else◌}
use Rattle.hex.specs.Hex.{encode_upper}
use Rattle.uecp_frame.specs.Frame.{high_first}

-- A byte is two upper-case digits.
unfoldable pub byte_word : ℕ → List ℕ
byte_word byte = codes " " ++ encode_upper (byte ∷ [])

-- A number of 16 bits is four upper-case digits, the high byte first.
unfoldable pub number_word : ℕ → List ℕ
number_word number = codes " " ++ encode_upper (high_first number)

-- A row of bytes is two upper-case digits for each, and a hyphen where there is none.
unfoldable pub row_word : List ℕ → List ℕ
row_word bytes = codes " " ++ (if length bytes == 0 then codes "-" else encode_upper bytes)

-- A count is decimal.
unfoldable pub decimal_word : ℕ → List ℕ
decimal_word number = codes " " ++ decimal number

-- A flag is 1 or 0.
unfoldable pub flag_word : Bool → List ℕ
flag_word is_set = if is_set then codes " 1" else codes " 0"

-- A name and a count.
unfoldable pub counted : (name : List ℕ) → ℕ → List ℕ
counted name number = name ++ decimal_word number

-- A name and a flag.
unfoldable pub flagged : (name : List ℕ) → Bool → List ℕ
flagged name is_set = name ++ flag_word is_set
