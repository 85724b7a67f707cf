-- How long the words of a ladder are.
use Rattle.std.proofs.Common.{◌≡◌, ◌+◌, ℕ, List, ◌++◌, length, codes, decimal, arith, refl}
use Rattle.std.proofs.lemmas.List.{length-append}
use Rattle.hex.specs.Hex.{encode_with}
use Rattle.uecp_link.specs.Counters.{counter_of}
use Rattle.uecp_text.specs.Digits.{byte_word, counted, decimal_word}
use Rattle.ladders.specs.Words.{with_counter}

byte_length : (byte : ℕ) → length (byte_word byte) ≡ 3
unfolding byte_word encode_with
byte_length byte = refl

counted_length : (name : List ℕ) (number : ℕ)
    → length (counted name number) ≡ length name + (1 + length (decimal number))
unfolding counted decimal_word
counted_length name number =
    let whole = length-append name (codes " " ++ decimal number) in
    let behind = length-append (codes " ") (decimal number) in
    omega (arith, whole, behind)

pub with_counter_length : (name : List ℕ) (number : ℕ)
    → length (with_counter name number) ≡ length name + (1 + length (decimal number)) + 11
with_counter_length name number =
    let counter = byte_word (counter_of number) in
    let whole = length-append (counted name number) (codes " counter" ++ counter) in
    let behind = length-append (codes " counter") counter in
    let first = counted_length name number in
    let last = byte_length (counter_of number) in
    omega (arith, whole, behind, first, last)
