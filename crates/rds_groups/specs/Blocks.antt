-- How a block of a group is protected: a word of 16 bits, and a check word of 10 bits. (IEC 62106, error protection)
-- A number stands for a polynomial: bit i is the coefficient of x^i, and `bit_xor` adds.
use Rattle.std.specs.Prelude.{ℕ, zero, suc, ◌+◌, ◌*◌, ◌/◌, ◌%◌, ◌==◌, Option, Some, None, bit_xor, nat_lt}
use Rattle.std.specs.Prelude.{if◌then◌else◌}
use Rattle.rds_groups.specs.declared.offset_word.OffsetWord.{OffsetWord}
use Rattle.rds_groups.specs.declared.offset_word.OffsetWord.TheVariants.{A, B, C, CPrime, D}

-- The generator x^10 + x^8 + x^7 + x^5 + x^4 + x^3 + 1. (IEC 62106, error protection)
abbrev pub generator : ℕ
generator = 0x5B9

-- A remainder times x, as a remainder: where x^10 comes up the generator is taken away.
abbrev pub times_x : ℕ → ℕ
times_x r = if nat_lt (r * 2) 0x400 then r * 2 else bit_xor (r * 2) generator

-- The remainder that the generator leaves of a polynomial of so many coefficients: the last one is added to x times
-- what the others leave.
abbrev pub remainder : (count : ℕ) → ℕ → ℕ
remainder zero p = 0
remainder (suc count) p = bit_xor (times_x (remainder count (p / 2))) (p % 2)

-- The check word of 16 bits: what remains of them times x^10. (IEC 62106, error protection)
abbrev pub check_word : (word : ℕ) → ℕ
check_word word = remainder 26 (word * 0x400)

-- The offset words, by which a receiver knows which block of a group it has; C' stands for C in a group of version B.
-- (IEC 62106, offset words)
abbrev pub value_of : OffsetWord → ℕ
value_of A = 0x0FC
value_of B = 0x198
value_of C = 0x168
value_of CPrime = 0x350
value_of D = 0x1B4

-- A block is the word, and its check word plus an offset word. (IEC 62106, error protection)
abbrev pub block : (word offset : ℕ) → ℕ
block word offset = word * 0x400 + bit_xor (check_word word) offset

-- The word of 26 bits that came, if they are such a block.
abbrev pub word_of : (bits offset : ℕ) → Option ℕ
word_of bits offset =
    if bit_xor (check_word (bits / 0x400)) offset == bits % 0x400 then Some (bits / 0x400) else None
