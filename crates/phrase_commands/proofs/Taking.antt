-- Lines that are taken one after another.
use Rattle.std.proofs.Common.{◌≡◌, ◌+◌, ℕ, List, [], ◌∷◌, ◌++◌, length, refl, sym, ap, ◌∙◌, subst, arith, suc}
use Rattle.std.proofs.Common.{append-nil, append_assoc}
use Rattle.rds_text.specs.declared.programme_type.Region.{Region}
use Rattle.notices.specs.Told.{Told}
use Rattle.uecp_text.specs.Input.{lines_of}
use Rattle.phrase_commands.specs.Scripts.{AreTaken, IsTaken}
use Rattle.phrase_commands.proofs.Alone.{longer}

-- one more line
taken_more : (region : Region) (number : ℕ) (first : List (List ℕ)) (line script taken : List ℕ)
    (told between told' : Told) → AreTaken region number first script told between
    → IsTaken region (number + length first) line taken between told'
    → AreTaken region number (first ++ line ∷ []) (script ++ taken) told told'
taken_more region number [] line script taken told between told' (none, same) one =
    let here : number + 0 ≡ number = omega arith in (
      taken,
      [],
      told',
      subst (λ t. IsTaken region number line taken t told') same
          (subst (λ n. IsTaken region n line taken between told') here one),
      ap (λ s. s ++ taken) none ∙ sym (append-nil taken),
      (refl, refl),
    )
taken_more region number (l ∷ first) line script taken told between told' (t, more, next, is, whole, rest) one =
    let on : number + suc (length first) ≡ number + 1 + length first = omega arith in (
      t,
      more ++ taken,
      next,
      is,
      ap (λ s. s ++ taken) whole ∙ append_assoc t more taken,
      taken_more region (number + 1) first line more taken next between told' rest
          (subst (λ n. IsTaken region n line taken between told') on one),
    )

-- of the lines of an input before this rest, this script was taken; and the next line has this number
abbrev pub SoFar : Region → (input rest script : List ℕ) → (number : ℕ) → (told told' : Told) → Type 0
SoFar region input rest script number told told' =
    (first : List (List ℕ)) × (lines_of input ≡ first ++ lines_of rest)
    × AreTaken region 1 first script told told' × (number ≡ length first + 1)

-- so with one more
pub so_on : (region : Region) (input rest more line script taken script' : List ℕ) (number : ℕ)
    (told between told' : Told) → SoFar region input rest script number told between
    → lines_of rest ≡ line ∷ lines_of more → IsTaken region number line taken between told'
    → script' ≡ script ++ taken → SoFar region input more script' (number + 1) told told'
so_on region input rest more line script taken script' number told between told' (first, split, are, counted) next is
    whole =
    let here : number ≡ 1 + length first = omega (arith, counted) in (
      first ++ line ∷ [],
      split ∙ ap (λ l. first ++ l) next ∙ sym (append_assoc first (line ∷ []) (lines_of more)),
      subst (λ s. AreTaken region 1 (first ++ line ∷ []) s told told') (sym whole)
          (taken_more region 1 first line script taken told between told' are
          (subst (λ n. IsTaken region n line taken between told') here is)),
      longer first line number counted,
    )
