-- Names without the spaces at their ends, as far as they have been looked at, and how long names of programme types
-- are.
use Rattle.std.proofs.Common.{◌≡◌, ℕ, suc, ◌+◌, ◌<◌, ◌≤◌, ◌==◌, ◌&&◌, Bool, false, cond, List, [], ◌∷◌, ◌++◌, length}
use Rattle.std.proofs.Common.{take, get_or}
use Rattle.std.proofs.Common.{Some, refl, sym, ap, ◌∙◌, arith}
use Rattle.std.proofs.Math.Seq.{take-suc}
use Rattle.std.proofs.lemmas.Bool.{ne_eqb}
use Rattle.rds_text.specs.declared.programme_type.Region.{Region}
use Rattle.rds_text.specs.ProgrammeTypes.{name_of}
use Rattle.std.specs.List.{AllByRecursion}
use Rattle.phrase_tokens.specs.Tokens.{IsToken}
use Rattle.uecp_phrases.specs.Written.{trimmed, programme_type_tokens}
use Rattle.uecp_phrases.proofs.SaidTokens.{programme_type_is}

space_last : (xs : List ℕ) → trimmed (xs ++ 0x20 ∷ []) ≡ trimmed xs
space_last [] = refl
space_last (x ∷ xs) = ap (λ (l : List ℕ). cond (length l == 0 && x == 0x20) [] (x ∷ l)) (space_last xs)

some_last : (xs : List ℕ) (b : ℕ) → (length (xs ++ b ∷ []) == 0) ≡ false
some_last [] b = refl
some_last (x ∷ xs) b = ne_eqb (length ((x ∷ xs) ++ b ∷ [])) 0 (λ e. omega arith)

other_last : (xs : List ℕ) (b : ℕ) → (b == 0x20) ≡ false → trimmed (xs ++ b ∷ []) ≡ xs ++ b ∷ []
other_last [] b h = ap (λ (t : Bool). cond t [] (b ∷ [])) h
other_last (x ∷ xs) b h =
    ap (λ (l : List ℕ). cond (length l == 0 && x == 0x20) [] (x ∷ l)) (other_last xs b h)
    ∙ ap (λ (t : Bool). cond (t && x == 0x20) [] (x ∷ (xs ++ b ∷ []))) (some_last xs b)

-- A space at the end is dropped.
pub space_dropped : (name : List ℕ) (end before : ℕ) → before + 1 ≡ end → end ≤ length name
    → get_or name before 0 ≡ 0x20
    → trimmed (take before name) ≡ trimmed (take end name)
space_dropped name end before next within space =
    let one : end ≡ suc before = omega arith in
    sym (space_last (take before name))
    ∙ ap (λ (b : ℕ). trimmed (take before name ++ b ∷ [])) (sym space)
    ∙ ap trimmed (sym (take-suc name before 0 (omega arith)))
    ∙ ap (λ (n : ℕ). trimmed (take n name)) (sym one)

-- What ends with no space is whole.
pub other_kept : (name : List ℕ) (end before : ℕ) → before + 1 ≡ end → end ≤ length name
    → (get_or name before 0 ≡ 0x20 → ⊥) → trimmed (take end name) ≡ take end name
other_kept name end before next within other =
    let one : end ≡ suc before = omega arith in
    let last = take-suc name before 0 (omega arith) in
    ap (λ (n : ℕ). trimmed (take n name)) one
    ∙ ap trimmed last
    ∙ other_last (take before name) (get_or name before 0) (ne_eqb _ _ other)
    ∙ sym last
    ∙ ap (λ (n : ℕ). take n name) (sym one)

-- A name of a programme type has a text's length.
pub name_short : (region : Region) (raw : ℕ) (name : List ℕ) → raw < 0x100 → name_of region raw ≡ Some name
    → length name ≤ 64
name_short region raw name low is =
    let written : AllByRecursion IsToken (programme_type_tokens region raw) = programme_type_is region raw low in
    (rw is at written).0.0

-- What is empty is whole.
pub none_kept : (name : List ℕ) (end : ℕ) → end ≡ 0 → trimmed (take end name) ≡ take end name
none_kept name end none = rw none refl
