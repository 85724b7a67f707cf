-- The line of a group: its four words in hexadecimal. (profile)
use Rattle.std.specs.Prelude.{ℕ, ◌+◌, ◌-◌, ◌*◌, ◌/◌, ◌%◌, ◌^◌, ◌<◌, List, [], ◌∷◌, ◌++◌, nat_lt, slice_index}
use Rattle.std.specs.Prelude.{if◌then◌else◌}
use Rattle.rds_groups.specs.declared.group.Group.{Group}

-- The digit of a number below 16: 0 to 9, A to F.
abbrev pub digit : ℕ → ℕ
digit n = if nat_lt n 10 then 48 + n else 55 + n

-- The four digits of a word.
abbrev pub digits : (word : ℕ) → List ℕ
digits word = digit (word / 4096) ∷ digit (word / 256 % 16) ∷ digit (word / 16 % 16) ∷ digit (word % 16) ∷ []

-- The line of a group: its words in order, a space between each two. (profile)
abbrev pub line : Group → List ℕ
line g = digits g.block1 ++ 0x20 ∷ (digits g.block2 ++ 0x20 ∷ (digits g.block3 ++ 0x20 ∷ digits g.block4))

-- The words of a group are of 16 bits.
pub record IsGroup (g : Group) : Type 0 where
  pub block1 : g.block1 < 2 ^ 16
  pub block2 : g.block2 < 2 ^ 16
  pub block3 : g.block3 < 2 ^ 16
  pub block4 : g.block4 < 2 ^ 16

-- ---- How a line is read (no public clause cites this): as if its bytes were digits, and then the line is compared.
abbrev pub value : (byte : ℕ) → ℕ
value byte = (if nat_lt byte 58 then byte - 48 else byte - 55) % 16

abbrev pub number_at : (text : List ℕ) → (place : ℕ) → ℕ
number_at text place =
    value (slice_index text place) * 4096 + value (slice_index text (place + 1)) * 256
    + value (slice_index text (place + 2)) * 16 + value (slice_index text (place + 3))
