-- A byte of a name that has no backslash before it in TAP.
use Rattle.std.proofs.Common.{◌≡◌, ◌≢◌, ℕ, [], ◌∷◌, arith}
use Rattle.std.proofs.lemmas.Bool.Decides.{nat_tests}
use Rattle.conformance_command.specs.Telling.{tap_byte}

pub tap_plain : (x : ℕ) → x ≢ 0x23 → x ≢ 0x5C → tap_byte x ≡ x ∷ []
tap_plain x sign slash = grind (arith, nat_tests)
