-- A reply is short.
use Rattle.std.proofs.Common.{◌≡◌, ◌≤◌, ◌<◌, ◌+◌, ◌/◌, ◌%◌, ℕ, List, [], ◌∷◌, ◌∙◌, ap, length, arith, length-append}
use Rattle.uecp_elements.specs.declared.code.Code.{Code}
use Rattle.uecp_elements.specs.declared.code.Code.TheVariants.{Applied, UnknownElement, DataSet, Service, OutOfRange}
use Rattle.uecp_elements.specs.declared.code.Code.TheVariants.{ElementLength, NotHere, BufferFull}
use Rattle.uecp_elements.specs.Codes.{byte_of}
use Rattle.uecp_frame.specs.Stuffing.{code, stuffed}
use Rattle.uecp_frame.specs.Check.{check}
use Rattle.uecp_frame.specs.Frame.{body, plain_bytes, spelling}
use Rattle.uecp_frame.proofs.Public.{stuffed-cons, code-plain, length-code-le, length-stuffed-le}
use Rattle.uecp_encoder.specs.Answering.{reply_of}

-- bytes below FD are sent as they are
stuffed-plain : (b : ℕ) (u : List ℕ) → b < 253 → length (stuffed (b ∷ u)) ≡ 1 + length (stuffed u)
stuffed-plain b u small =
    ap length (stuffed-cons b u) ∙ length-append (code b) (stuffed u)
    ∙ ap (λ x. length x + length (stuffed u)) (code-plain b (λ e. absurd (omega arith)) (λ e. absurd (omega arith))
    (λ e. absurd (omega arith)))

stuffed-any : (b : ℕ) (u : List ℕ) → length (stuffed (b ∷ u)) ≤ 2 + length (stuffed u)
stuffed-any b u = let e = ap length (stuffed-cons b u) ∙ length-append (code b) (stuffed u) in
    omega (arith, e, length-code-le b)

byte_of-small : (c : Code) → byte_of c < 253
byte_of-small Applied = omega arith
byte_of-small UnknownElement = omega arith
byte_of-small DataSet = omega arith
byte_of-small Service = omega arith
byte_of-small OutOfRange = omega arith
byte_of-small ElementLength = omega arith
byte_of-small NotHere = omega arith
byte_of-small BufferFull = omega arith

-- of nine plain bytes four are never stuffed
nine : (a b c n k l : ℕ) → c < 253 → length (stuffed (a ∷ b ∷ 0 ∷ 3 ∷ 0x18 ∷ c ∷ n ∷ k ∷ l ∷ [])) ≤ 14
nine a b c n k l small =
    omega (
      arith,
      stuffed-any a (b ∷ 0 ∷ 3 ∷ 0x18 ∷ c ∷ n ∷ k ∷ l ∷ []),
      stuffed-any b (0 ∷ 3 ∷ 0x18 ∷ c ∷ n ∷ k ∷ l ∷ []),
      stuffed-plain 0 (3 ∷ 0x18 ∷ c ∷ n ∷ k ∷ l ∷ []) (omega arith),
      stuffed-plain 3 (0x18 ∷ c ∷ n ∷ k ∷ l ∷ []) (omega arith),
      stuffed-plain 0x18 (c ∷ n ∷ k ∷ l ∷ []) (omega arith),
      stuffed-plain c (n ∷ k ∷ l ∷ []) small,
      length-stuffed-le (n ∷ k ∷ l ∷ []),
    )

pub reply_is_short : (address counter : ℕ) (c : Code) → length (spelling (reply_of address counter c)) ≤ 16
unfolding spelling plain_bytes body
reply_is_short address counter c =
    let inside : length (stuffed (plain_bytes (reply_of address counter c))) ≤ 14 =
    nine (address / 0x100) (address % 0x100) (byte_of c) counter (check (body (reply_of address counter c)) / 0x100)
    (check (body (reply_of address counter c)) % 0x100) (byte_of-small c) in
    omega (arith, inside, length-append (stuffed (plain_bytes (reply_of address counter c))) (255 ∷ []))
