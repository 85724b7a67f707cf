-- Bits of a byte, the lowest being bit 0.
use Rattle.std.specs.Prelude.{ℕ, ◌/◌, ◌%◌, ◌==◌, Bool}

-- Bit 0 is set.
abbrev pub bit_0 : ℕ → Bool
bit_0 n = n % 2 == 1

-- Bit 1 is set.
abbrev pub bit_1 : ℕ → Bool
bit_1 n = n / 2 % 2 == 1

-- The number that bits 4 to 1 hold, 0 to 15.
abbrev pub bits_4_to_1 : ℕ → ℕ
bits_4_to_1 n = n / 2 % 16

-- The number that bits 4 to 0 hold, 0 to 31.
abbrev pub bits_4_to_0 : ℕ → ℕ
bits_4_to_0 n = n % 32

-- The number that bits 6 and 5 hold, 0 to 3.
abbrev pub bits_6_to_5 : ℕ → ℕ
bits_6_to_5 n = n / 32 % 4
