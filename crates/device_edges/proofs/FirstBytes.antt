-- What is handed on still, as first bytes are read, judged and handed on.
use Rattle.std.proofs.Common.{◌≡◌, ℕ, Bool, true, false, List, [], ◌++◌, length, take, refl, sym, ap, ◌∙◌, subst}
use Rattle.std.proofs.Common.{append-nil}
use Rattle.std.proofs.Common.{append_assoc, arith, ◌≤◌, zero, suc, ◌∷◌}
use lib.ListN.{get_or}
use Rattle.std.specs.Bool.{⊤}
use Rattle.std.specs.Prelude.{if◌then◌else◌, Option, Some, None, Result, Ok, Err}
use Rattle.std.specs.Option.{option_map}
use Rattle.std.specs.Io.KnownBytes.{Consumes, Keeps, IsAtEnd, ReadConsumes}
use Rattle.device_edges.specs.declared.screen.Phase.{Phase}
use Rattle.device_edges.specs.declared.screen.Phase.TheVariants.{Judging, Ours, Foreign}
use Rattle.std.proofs.KnownBytes.{Keeps-refl, Keeps-trans}
use Rattle.device_edges.specs.Screen.{Screen, left, openings, is_foreign, is_begun, judged, screened, handed_on}
use Rattle.device_edges.proofs.Screens.{any_still, any_never, any_shorter}

-- known bytes of which so many are held, judged so
abbrev pub of : Phase → (first : List ℕ) → Option (List ℕ) → Option (List ℕ)
of phase first rest = option_map (handed_on phase first) rest

-- nothing was judged yet
pub begun : {R : Type 0} (remaining : R → Option (List ℕ)) (seen s : Screen R) → seen ≡ s → s.phase ≡ Judging
    → Keeps (left remaining s) (of Judging seen.first (remaining seen.reader))
begun remaining seen s is judging =
    subst (λ x. Keeps x (of Judging seen.first (remaining seen.reader)))
    (ap (λ p. of p seen.first (remaining seen.reader)) (sym (ap (λ z. z.phase) is ∙ judging)) ∙ ap (left remaining) is)
    (Keeps-refl (of Judging seen.first (remaining seen.reader)))

-- more first bytes were read, and nothing was judged
pub held_more : (rest rest' : Option (List ℕ)) (first bytes : List ℕ) → Consumes rest rest' bytes
    → Keeps (of Judging first rest) (of Judging (first ++ bytes) rest')
held_more None rest' first bytes p = tt
held_more (Some x) None first bytes p = absurd p
held_more (Some x) (Some y) first bytes p =
    ap screened (append_assoc first bytes y ∙ sym (ap (λ (z : List ℕ). first ++ z) p))

-- what they tell was found
settled : (first rest : List ℕ) → handed_on (judged first) first rest ≡ handed_on Judging first rest
settled first rest = go (is_foreign first) (is_begun first) refl refl
  where
    go : (f b : Bool) → is_foreign first ≡ f → is_begun first ≡ b
        → handed_on (judged first) first rest ≡ handed_on Judging first rest
    go true b e d = grind (arith, any_still openings first rest e, e)
    go false true e d = grind (arith, e, d)
    go false false e d = grind (arith, any_never openings first rest e d, e, d)

pub found : (rest : Option (List ℕ)) (first : List ℕ) (phase : Phase) → phase ≡ judged first
    → Keeps (of Judging first rest) (of phase first rest)
found None first phase is = tt
found (Some x) first phase is = ap (λ p. handed_on p first x) is ∙ settled first x

-- the first bytes tell nothing yet
pub untold : (first : List ℕ) → judged first ≡ Judging → (is_foreign first ≡ false) × (is_begun first ≡ true)
untold first is = go (is_foreign first) (is_begun first) is
  where
    told : Phase → Type 0
    told Judging = ⊤
    told Ours = ⊥
    told Foreign = ⊥

    go : (f b : Bool) → (if f then Foreign else (if b then Judging else Ours)) ≡ Judging → (f ≡ false) × (b ≡ true)
    go true b e = absurd (subst told (sym e) tt)
    go false true e = (refl, refl)
    go false false e = absurd (subst told (sym e) tt)

-- so the input may end there, and they are handed on
pub ended : (rest rest' : Option (List ℕ)) (first : List ℕ) → judged first ≡ Judging → Consumes rest rest' []
    → IsAtEnd rest' → Keeps (of Judging first rest) (of Ours first rest')
ended None rest' first is p q = tt
ended (Some x) None first is p q = absurd p
ended (Some x) (Some y) first is p q =
    let none : x ≡ [] = p ∙ q in
    let whole : first ++ x ≡ first = ap (λ (z : List ℕ). first ++ z) none ∙ append-nil first in
    ap (λ (z : List ℕ). first ++ z) (sym p) ∙ sym (all whole)
  where
    all : first ++ x ≡ first → screened (first ++ x) ≡ first ++ x
    all whole = ap (λ f. if f then [] else (first ++ x)) (ap is_foreign whole ∙ (untold first is).0)

-- and they are few
pub few : (first : List ℕ) → judged first ≡ Judging → length first ≤ 8
few first is = any_shorter openings first 8 refl (untold first is).1

-- one byte that was read
pub one_byte : (n : ℕ) (xs : List ℕ) → length xs ≡ 1 → n ≤ length xs → (n ≡ 0 → ⊥) → take n xs ≡ get_or xs 0 0 ∷ []
one_byte zero xs one most some = absurd (some refl)
one_byte (suc n) [] one most some = absurd (grind (arith, one))
one_byte (suc n) (x ∷ y ∷ xs) one most some = absurd (grind (arith, one))
one_byte (suc zero) (x ∷ []) one most some = refl
one_byte (suc (suc n)) (x ∷ []) one most some = absurd (grind (arith, most))

-- ---- A read.

-- what was left stays, and then bytes are read
pub consumes_after : (a b c : Option (List ℕ)) (bytes : List ℕ) → Keeps a b → Consumes b c bytes → Consumes a c bytes
consumes_after None b c bytes k r = tt
consumes_after (Some x) None c bytes k r = absurd k
consumes_after (Some x) (Some y) None bytes k r = absurd r
consumes_after (Some x) (Some y) (Some z) bytes k r = sym k ∙ r

-- the same of a read into a buffer
pub read_after : {E : Type 0} (a b c : Option (List ℕ)) (result : Result ℕ E) (buf : List ℕ) → Keeps a b
    → ReadConsumes b c result buf → ReadConsumes a c result buf
read_after a b c (Ok n) buf k r = (consumes_after a b c (take n buf) k r.0, r.1)
read_after a b c (Err fault) buf k r = Keeps-trans a b c k r

-- the first read brought bytes that are no other protocol's
pub first_ours : (rest rest' : Option (List ℕ)) (first bytes : List ℕ) → first ≡ [] → Consumes rest rest' bytes
    → judged bytes ≡ Ours → Consumes (of Judging first rest) (of Ours first rest') bytes
first_ours None rest' first bytes none p is = tt
first_ours (Some x) None first bytes none p is = absurd p
first_ours (Some x) (Some y) first bytes none p is =
    ap (λ (f : List ℕ). screened (f ++ x)) none ∙ ap screened p ∙ sym (settled bytes y)
    ∙ ap (λ phase. handed_on phase bytes y) is ∙ ap (λ (f : List ℕ). bytes ++ (f ++ y)) (sym none)

-- they are
pub first_foreign : (rest rest' : Option (List ℕ)) (first bytes : List ℕ) → first ≡ [] → Consumes rest rest' bytes
    → judged bytes ≡ Foreign → Consumes (of Judging first rest) (of Foreign first rest') []
first_foreign None rest' first bytes none p is = tt
first_foreign (Some x) None first bytes none p is = absurd p
first_foreign (Some x) (Some y) first bytes none p is =
    ap (λ (f : List ℕ). screened (f ++ x)) none ∙ ap screened p ∙ sym (settled bytes y)
    ∙ ap (λ phase. handed_on phase bytes y) is

pub nothing_left : (rest : Option (List ℕ)) (first : List ℕ) → IsAtEnd (of Foreign first rest)
nothing_left None first = tt
nothing_left (Some x) first = refl

-- they may be
pub first_held : (rest rest' : Option (List ℕ)) (first bytes : List ℕ) → first ≡ [] → Consumes rest rest' bytes
    → Keeps (of Judging first rest) (of Judging bytes rest')
first_held rest rest' first bytes none p =
    subst (λ xs. Keeps (of Judging first rest) (of Judging xs rest')) (ap (λ (f : List ℕ). f ++ bytes) none)
    (held_more rest rest' first bytes p)
