-- The segment that bytes leave open, as one more byte comes.
use Rattle.std.proofs.Common.{◌≡◌, ◌≢◌, ◌<◌, ◌+◌, ℕ, List, [], ◌∷◌, ◌++◌, refl, ◌∙◌, ap, sym, subst, arith, Option}
use Rattle.std.proofs.Common.{Some}
use Rattle.std.proofs.Common.{None, length, length-append}
use Rattle.std.specs.Option.{option_map}
use Rattle.std.proofs.lemmas.Bool.{ne_eqb}
use Rattle.uecp_frame.specs.Findings.{open_bytes}
use Rattle.uecp_frame.proofs.Public.{HasNone, open_bytes-here, open_bytes-other, open_bytes-append_one}
use Rattle.uecp_frame.proofs.Public.{open_bytes-append_none, open_bytes-nil}
use Rattle.uecp_c.specs.Findings.{segment_length, open_length}

-- no bytes leave none open
pub open_length-nil : open_length [] ≡ 0
open_length-nil = ap segment_length open_bytes-nil

-- FE begins one
pub open_length-start : (s : List ℕ) (b : ℕ) → b ≡ 254 → open_length (s ++ b ∷ []) ≡ 1
open_length-start s b e =
    let P : ℕ → Type 0 = λ n. open_length (s ++ n ∷ []) ≡ 1 in
    subst P (sym e) (ap segment_length (open_bytes-append_one s (254 ∷ []) refl ∙ open_bytes-here 254 [] refl refl))

-- FF ends one
pub open_length-end : (s : List ℕ) (b : ℕ) → b ≡ 255 → open_length (s ++ b ∷ []) ≡ 0
open_length-end s b e =
    let P : ℕ → Type 0 = λ n. open_length (s ++ n ∷ []) ≡ 0 in
    subst P (sym e)
    (ap segment_length (open_bytes-append_one s (255 ∷ []) refl
    ∙ open_bytes-other 255 [] refl (λ k. absurd (omega arith))))

-- each other byte goes on with it
abbrev grown : Option (List ℕ) → ℕ → ℕ
grown None b = 0
grown (Some x) b = 2 + length x

grown_is : (o : Option (List ℕ)) (b : ℕ) → segment_length (option_map (λ x. x ++ b ∷ []) o) ≡ grown o b
grown_is None b = refl
grown_is (Some x) b = omega (arith, length-append x (b ∷ []))

grown-none : (o : Option (List ℕ)) (b : ℕ) → segment_length o ≡ 0 → grown o b ≡ 0
grown-none None b e = refl
grown-none (Some x) b e = absurd (omega arith)

grown-some : (o : Option (List ℕ)) (b : ℕ) → 0 < segment_length o → grown o b ≡ segment_length o + 1
grown-some None b e = absurd (omega arith)
grown-some (Some x) b e = omega arith

no_delimiter : (b : ℕ) → b ≢ 254 → b ≢ 255 → HasNone (b ∷ [])
no_delimiter b e f = rw (ne_eqb b 254 e, ne_eqb b 255 f)

longer : (s : List ℕ) (b : ℕ) → b ≢ 254 → b ≢ 255 → open_length (s ++ b ∷ []) ≡ grown (open_bytes s) b
longer s b e f = ap segment_length (open_bytes-append_none s (b ∷ []) (no_delimiter b e f)) ∙ grown_is (open_bytes s) b

pub open_length-none : (s : List ℕ) (b : ℕ) → b ≢ 254 → b ≢ 255 → open_length s ≡ 0 → open_length (s ++ b ∷ []) ≡ 0
open_length-none s b e f none = longer s b e f ∙ grown-none (open_bytes s) b none

pub open_length-more : (s : List ℕ) (b : ℕ) → b ≢ 254 → b ≢ 255 → 0 < open_length s
    → open_length (s ++ b ∷ []) ≡ open_length s + 1
open_length-more s b e f some = longer s b e f ∙ grown-some (open_bytes s) b some
