-- The digits that `hex` writes in lower case, put in upper case.
use Rattle.std.proofs.Common.{◌≡◌, ℕ, List, [], ◌∷◌, ◌/◌, ◌%◌, refl, sym, map, slice_index}
use Rattle.std.proofs.Math.ListN.{get_or-map}
use Rattle.std.specs.Char.{to_ascii_uppercase}
use Rattle.hex.specs.Hex.{lower_digits, upper_digits, encode_with, encode_lower, encode_upper}

-- a digit in lower case, put in upper case, is that in upper case
upper_digit : (n : ℕ) → to_ascii_uppercase (slice_index lower_digits n) ≡ slice_index upper_digits n
upper_digit n = sym (get_or-map to_ascii_uppercase lower_digits n 0)

-- two that are the same before what is the same
two_before : (a b c d : ℕ) (xs ys : List ℕ) → a ≡ b → c ≡ d → xs ≡ ys → a ∷ c ∷ xs ≡ b ∷ d ∷ ys
two_before a b c d xs ys first second rest = rw (first, second, rest) refl

-- the digits of bytes in lower case, put in upper case, are those in upper case
pub upper_case : (bytes : List ℕ) → map to_ascii_uppercase (encode_lower bytes) ≡ encode_upper bytes
unfolding encode_with
upper_case [] = refl
upper_case (b ∷ rest) =
    two_before _ _ _ _ _ _ (upper_digit (b / 16)) (upper_digit (b % 16)) (upper_case rest)
