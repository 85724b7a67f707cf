-- How much comes out.
use Rattle.std.proofs.Common.{◌≡◌, ◌<◌, ◌≤◌, ◌+◌, ◌*◌, ℕ, zero, suc, Bool, true, false, ◌||◌, List, length, refl, sym}
use Rattle.std.proofs.Common.{ap, ◌∙◌, subst}
use Rattle.std.proofs.Common.{arith, Option, Some, None}
use Rattle.std.specs.Prelude.{if◌then◌else◌}
use Rattle.std.proofs.Math.Nat.{mul-le-mul_right, suc-mul, zero-mul}
use Rattle.std.proofs.lemmas.List.{length-append, length-set}
use Rattle.std.specs.List.{list_any}
use Rattle.bad_line.specs.declared.rules.rule.Way.{Way}
use Rattle.bad_line.specs.declared.rules.rule.Rule.{Rule}
use Rattle.bad_line.specs.declared.rules.fate.Fate.{Fate}
use Rattle.bad_line.specs.Fates.{MayCome, loses, repeats, breaks, named_place, first_place}
use Rattle.bad_line.specs.Pieces.{times, with_damage, out_of_segment}

-- The fate of a segment by what the rules and chance say.
abbrev pub built : (loses lost twice : Bool) (named drawn : Option ℕ) (breaks : Bool) → Fate
built loses lost twice named drawn breaks =
    if loses || lost
    then record { copies = 0; damaged = None; breaks = breaks }
    else record { copies = if twice then 2 else 1; damaged = first_place named drawn; breaks = breaks }

few_built : (loses lost twice : Bool) (named drawn : Option ℕ) (breaks : Bool)
    → (built loses lost twice named drawn breaks).copies ≤ 2
few_built true lost twice named drawn breaks = omega arith
few_built false true twice named drawn breaks = omega arith
few_built false false true named drawn breaks = omega arith
few_built false false false named drawn breaks = omega arith

-- A segment comes twice at most.
pub few_copies : (rules : List Rule) (way : Way) (number length : ℕ) (fate : Fate)
    → MayCome rules way number length fate → fate.copies ≤ 2
few_copies rules way number length fate (chance, may_do, is) =
    subst (λ (f : Fate). f.copies ≤ 2) (sym is) (few_built (list_any (loses way number) rules) chance.lost
    (list_any (repeats way number) rules) (named_place rules way number length) chance.place
    (list_any (breaks way number) rules))

pub length-times : (count : ℕ) (segment : List ℕ) → length (times count segment) ≡ count * length segment
length-times zero segment = sym (zero-mul (length segment))
length-times (suc count) segment =
    length-append (times count segment) segment ∙ ap (λ (n : ℕ). n + length segment) (length-times count segment)
    ∙ sym (suc-mul count (length segment))

pub length-with_damage : (place : Option ℕ) (segment : List ℕ) → length (with_damage place segment) ≡ length segment
length-with_damage None segment = refl
length-with_damage (Some place) segment = length-set segment _ _

-- One more copy has room where all have.
pub one_more_fits : (a copy copies size : ℕ) → copy < copies → a + copies * size ≤ 8192 → a + copy * size + size ≤ 8192
one_more_fits a copy copies size less fits =
    let some : suc copy * size ≤ copies * size = mul-le-mul_right size (omega arith) in
    omega (arith, some, suc-mul copy size)

-- What comes out of a segment is at most twice as long.
pub length-out_of_segment : (fate : Fate) (segment : List ℕ) → fate.copies ≤ 2
    → length (out_of_segment fate segment) ≤ 2 * length segment
length-out_of_segment fate segment few =
    let some : fate.copies * length segment ≤ 2 * length segment = mul-le-mul_right (length segment) few in
    omega (
      arith,
      some,
      length-times fate.copies (with_damage fate.damaged segment)
          ∙ ap (λ (n : ℕ). fate.copies * n) (length-with_damage fate.damaged segment),
    )
