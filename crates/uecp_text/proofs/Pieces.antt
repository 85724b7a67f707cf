-- Texts of hexadecimal digits, with spaces and without.
use Rattle.std.proofs.Common.{◌≡◌, ℕ, List, [], ◌∷◌, ◌==◌, not, true, filter, Ok, refl, ap, ◌∙◌, arith, Bool}
use Rattle.std.proofs.lemmas.List.Elements.{All-head, All-tail}
use Rattle.std.specs.List.{AllPass}
use Rattle.hex.specs.Hex.{decode_of, is_hex_digit}
use Rattle.hex.proofs.HexLemmas.{decode_of-ok}
use Rattle.uecp_text.specs.Words.{bytes_in}

-- whether a byte is no space
abbrev pub is_kept : ℕ → Bool
is_kept byte = not (byte == 0x20)

-- a digit is no space
pub digit_kept : (c : ℕ) → is_hex_digit c ≡ true → is_kept c ≡ true
digit_kept c digit = grind arith

-- taking spaces out of digits leaves them as they are
digits_kept : (text : List ℕ) → AllPass is_hex_digit text → filter is_kept text ≡ text
digits_kept [] all = refl
digits_kept (c ∷ rest) all =
    let kept = digit_kept c (All-head (λ x. is_hex_digit x ≡ true) c rest all) in
    let later = digits_kept rest (All-tail (λ x. is_hex_digit x ≡ true) c rest all) in
    rw kept (ap (λ (l : List ℕ). c ∷ l) later)

-- what decodes as it stands has no spaces to take out
pub piece_as_it_stands : (text bytes : List ℕ) → decode_of text ≡ Ok bytes → bytes_in text ≡ Ok bytes
piece_as_it_stands text bytes decodes = ap decode_of (digits_kept text (decode_of-ok text bytes decodes).1) ∙ decodes
