-- The digits of a number are a text.
use Rattle.std.proofs.Common.{◌≡◌, ◌<◌, ◌^◌, ℕ, true, List, [], ◌∷◌, subst, sym, refl, arith}
use lib.Pointwise.{pointwise}
use Rattle.std.proofs.Math.Dec.{eqb}
use Rattle.std.specs.Prelude.{decimal}
use Rattle.std.specs.Str.{IsUtf8}
use Rattle.std.proofs.lemmas.Fmt.{IsAscii-decimal}
use Rattle.std.proofs.lemmas.Str.{IsUtf8-from_ascii}

pub utf8_decimal : (n : ℕ) (bs : List ℕ) → n < 2 ^ 64 → bs ≡ decimal n → IsUtf8 bs
utf8_decimal n bs h is = subst IsUtf8 (sym is) (IsUtf8-from_ascii (decimal n) (IsAscii-decimal n h))

same : (bs : List ℕ) → pointwise eqb bs bs ≡ true
same [] = refl
same (b ∷ bs) = grind (arith, same bs)

-- bytes are like themselves
pub like_itself : (bs cs : List ℕ) → bs ≡ cs → pointwise eqb bs cs ≡ true
like_itself bs cs h = rw h (same cs)
