-- A spelling by the parts in which it is sent.
use Rattle.std.proofs.Common.{◌≡◌, ◌<◌, ◌≤◌, ◌+◌, ◌-◌, ◌/◌, ◌%◌, ℕ, List, [], ◌∷◌, ◌++◌, ◌∙◌, ap, sym, refl, length}
use Rattle.std.proofs.Common.{get_or, arith, length-append}
use Rattle.uecp_frame.specs.declared.frame.Frame.{Frame}
use Rattle.uecp_frame.specs.Stuffing.{stuffed}
use Rattle.uecp_frame.specs.Check.{check, register_after}
use Rattle.uecp_frame.specs.Frame.{high_first, body, plain_bytes, spelling}
use Rattle.uecp_frame.proofs.Codes.{stuffed-append}
use Rattle.uecp_frame.proofs.Resumed.{length-stuffed-le}
use Rattle.uecp_frame.proofs.Register.{register-append}

abbrev pub IsHeader : Frame → List ℕ → Type 0
IsHeader f header = header ≡ high_first f.address ++ f.counter ∷ length f.message ∷ []

-- the check bytes of a header and a message
abbrev pub check_bytes : List ℕ → List ℕ → List ℕ
check_bytes header message = high_first (check (header ++ message))

pub sent_is : (f : Frame) (header : List ℕ) → IsHeader f header →
    spelling f ≡ ((((254 ∷ []) ++ stuffed header) ++ stuffed f.message) ++ stuffed (check_bytes header f.message))
    ++ 255 ∷ []
unfolding spelling plain_bytes body
sent_is f header is =
    let whole : List ℕ = (high_first f.address ++ f.counter ∷ length f.message ∷ []) ++ f.message in
    ap (λ p. 254 ∷ p ++ 255 ∷ []) (stuffed-append whole (high_first (check whole)))
    ∙ ap (λ h. 254 ∷ (stuffed (h ++ f.message) ++ stuffed (check_bytes h f.message)) ++ 255 ∷ []) (sym is)
    ∙ ap (λ p. 254 ∷ (p ++ stuffed (check_bytes header f.message)) ++ 255 ∷ []) (stuffed-append header f.message)

pub length-sent : (f : Frame) (header : List ℕ) → IsHeader f header →
    length (spelling f) ≡ 2 + (length (stuffed header)
    + (length (stuffed f.message) + length (stuffed (check_bytes header f.message))))
length-sent f header is =
    let h = stuffed header in
    let m = stuffed f.message in
    let k = stuffed (check_bytes header f.message) in
    let e = ap length (sent_is f header is) in
    omega (arith, e, length-append ((h ++ m) ++ k) (255 ∷ []), length-append (h ++ m) k, length-append h m)

-- the spelling of the longest frame
pub length-spelling-le : (f : Frame) → length f.message ≤ 255 → length (spelling f) ≤ 524
length-spelling-le f small =
    let header = high_first f.address ++ f.counter ∷ length f.message ∷ [] in
    omega (
      arith,
      length-sent f header refl,
      length-stuffed-le header,
      length-stuffed-le f.message,
      length-stuffed-le (check_bytes header f.message),
    )

-- two bytes of a number, as they are computed
pub two_of : (r : List ℕ) (v : ℕ) → r ≡ v / 256 % 256 ∷ v % 256 ∷ [] → v < 65536 → r ≡ high_first v
two_of r v is small = is ∙ ap (λ (n : ℕ). n ∷ v % 256 ∷ []) (let e : v / 256 % 256 ≡ v / 256 = omega arith in e)

pub header_is : (f : Frame) (r : List ℕ) (v : ℕ) → r ≡ v / 256 % 256 ∷ v % 256 ∷ [] → v ≡ f.address → v < 65536 →
    IsHeader f (get_or r 0 0 ∷ get_or r 1 0 ∷ f.counter ∷ length f.message ∷ [])
header_is f r v is same small =
    ap (λ x. get_or x 0 0 ∷ get_or x 1 0 ∷ f.counter ∷ length f.message ∷ []) (two_of r v is small ∙ ap high_first same)

pub check_is : (header message : List ℕ) (a b : ℕ) (r : List ℕ) → a ≡ register_after 0xFFFF header
    → b ≡ register_after a message →
    r ≡ (65535 - b) / 256 % 256 ∷ (65535 - b) % 256 ∷ [] → r ≡ check_bytes header message
unfolding check
check_is header message a b r first second is =
    two_of r (65535 - b) is (omega arith)
    ∙ ap (λ (n : ℕ). high_first (65535 - n)) (second ∙ ap (λ n. register_after n message) first
    ∙ sym (register-append 0xFFFF header message))
