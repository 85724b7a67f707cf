-- An encoder that is ready for a new server: what it keeps, and what it keeps after some numbers.
use Rattle.std.proofs.Common.{◌≡◌, ℕ, zero, suc, ◌+◌, ◌-◌, ◌%◌, ◌≤◌, List, [], ◌∷◌, length, take, refl, ap, sym, ◌∙◌}
use Rattle.std.proofs.Common.{arith, inl, inr}
use Rattle.std.proofs.lemmas.List.{take-map}
use Rattle.uecp_elements.specs.declared.code.Code.{Code}
use Rattle.uecp_encoder.specs.Joining.{falling}
use Rattle.uecp_encoder.proofs.Public.{counters, back}
use Rattle.uecp_link.specs.Counters.{counter_of}
use Rattle.uecp_link.specs.Kept.{IsReady, pairs}

length-falling : (first n : ℕ) → length (falling first n) ≡ n
length-falling first zero = refl
length-falling first (suc n) = let rest = length-falling (first - 1) n in omega (arith, rest)

length-counters : (ring : List (ℕ × Code)) → length (counters ring) ≡ length ring
length-counters [] = refl
length-counters (pair ∷ ring) = ap (λ n. suc n) (length-counters ring)

full : (base : List (ℕ × Code)) → counters base ≡ falling 0xFF 127 → length base ≡ 127
full base is = sym (length-counters base) ∙ ap length is ∙ length-falling 255 127

pub ready_counters : (base : List (ℕ × Code)) → IsReady base → counters base ≡ falling 0xFF (length base)
ready_counters base (inl none) = ap counters none ∙ ap (λ (b : List (ℕ × Code)). falling 0xFF (length b)) (sym none)
ready_counters base (inr is) = is ∙ ap (falling 0xFF) (sym (full base is))

pub ready_few : (base : List (ℕ × Code)) → IsReady base → length base ≤ 127
ready_few base (inl none) = let n = ap length none in omega (arith, n)
ready_few base (inr is) = let n = full base is in omega (arith, n)

-- ---- after p numbers the ring is that of so many messages

-- of the last n the last w
shorter : (p n w : ℕ) → w ≤ n → take w (back p n) ≡ back p w
shorter zero n zero le = refl
shorter zero n (suc w) le = refl
shorter (suc p) zero zero le = refl
shorter (suc p) zero (suc w) le = absurd (omega arith)
shorter (suc p) (suc n) zero le = refl
shorter (suc p) (suc n) (suc w) le = ap (λ later. (1 + p % 255) ∷ later) (shorter p n w (omega arith))

none_before : (c : ℕ → Code) (w p : ℕ) → counters (take w (pairs [] c p)) ≡ back p w
none_before c zero zero = refl
none_before c (suc w) zero = refl
none_before c zero (suc p) = refl
none_before c (suc w) (suc p) = ap (λ later. counter_of p ∷ later) (none_before c w p)

-- behind the last of no messages stands none
none_back : (p : ℕ) → back p 0 ≡ []
none_back zero = refl
none_back (suc p) = refl

all_before : (base : List (ℕ × Code)) (c : ℕ → Code) (w p now : ℕ) → counters base ≡ falling 0xFF 127 → w ≤ 127
    → now ≡ p + 255 → counters (take w (pairs base c p)) ≡ back now w
all_before base c w zero now is le all =
    sym (take-map (λ (pair : ℕ × Code). pair.0) w base) ∙ ap (take w) is ∙ shorter 255 127 w le
    ∙ ap (λ n. back n w) (let a : 255 ≡ now = omega (arith, all) in a)
all_before base c zero (suc p) now is le all = sym (none_back now)
all_before base c (suc w) (suc p) zero is le all = absurd (omega arith)
all_before base c (suc w) (suc p) (suc now) is le all =
    let head : counter_of p ≡ 1 + now % 255 = omega arith in
    ap (λ n. n ∷ counters (take w (pairs base c p))) head
    ∙ ap (λ later. (1 + now % 255) ∷ later) (all_before base c w p now is (omega arith) (omega arith))

-- whichever it kept at first
pub some_messages : (base : List (ℕ × Code)) (c : ℕ → Code) (p : ℕ) → IsReady base
    → (now : ℕ) × (counters (take 127 (pairs base c p)) ≡ back now 127)
some_messages base c p (inl none) = (
  p,
  ap (λ (b : List (ℕ × Code)). counters (take 127 (pairs b c p))) none
      ∙ none_before c 127 p,
)
some_messages base c p (inr is) = (p + 255, all_before base c 127 p (p + 255) is (omega arith) refl)
