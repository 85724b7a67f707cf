-- Rows and characters that are left.
use Rattle.std.proofs.Common.{◌≡◌, ℕ, zero, suc, ◌+◌, ◌-◌, ◌<◌, ◌≤◌, List, [], ◌∷◌, ◌++◌, length, drop, refl, ap}
use Rattle.std.proofs.Common.{◌∙◌, arith, get_or}
use Rattle.std.proofs.Math.Seq.{drop-cons}
use Rattle.std.proofs.Math.Numerals.{suc-eq-add-one}
use Rattle.ladders.specs.declared.row.Row.{Row}
use Rattle.ladders.specs.Picture.{picture_row, picture_rows}
use Rattle.ladders.specs.Text.{repeated}

-- the first of those that are left, and the others
pub picture_left : (rows : List Row) (place : ℕ) (other : Row) → place < length rows
    → picture_rows place (drop place rows)
    ≡ picture_row place (get_or rows place other) ++ picture_rows (place + 1) (drop (place + 1) rows)
unfolding picture_rows
picture_left rows place other within =
    ap (picture_rows place) (drop-cons rows place other within)
    ∙ ap (λ (n : ℕ). picture_row place (get_or rows place other) ++ picture_rows (place + 1) (drop n rows))
    (suc-eq-add-one place)

pub part_left : (count at : ℕ) (part : List ℕ) → at < count
    → repeated (count - at) part ≡ part ++ repeated (count - (at + 1)) part
unfolding repeated
part_left count at part within =
    let more : count - at ≡ suc (count - (at + 1)) = omega (arith, within) in
    ap (λ (n : ℕ). repeated n part) more

pub none_left : (rows : List Row) (place : ℕ) → length rows ≤ place → drop place rows ≡ []
none_left [] zero past = refl
none_left [] (suc place) past = refl
none_left (row ∷ rows) zero past = absurd (omega (arith, past))
none_left (row ∷ rows) (suc place) past = none_left rows place (omega (arith, past))

pub no_part_left : (count at : ℕ) (part : List ℕ) → count ≤ at → repeated (count - at) part ≡ []
unfolding repeated
no_part_left count at part past =
    let none : count - at ≡ zero = omega (arith, past) in
    ap (λ (n : ℕ). repeated n part) none

pub no_row_left : (rows : List Row) (place : ℕ) → length rows ≤ place → picture_rows place (drop place rows) ≡ []
unfolding picture_rows
no_row_left rows place past = ap (picture_rows place) (none_left rows place past)
