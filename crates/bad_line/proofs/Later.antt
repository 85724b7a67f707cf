-- Rules that begin later.
use Rattle.std.proofs.Common.{◌≡◌, ◌<◌, ◌≤◌, ◌+◌, ◌-◌, ◌^◌, min, ℕ, Bool, false, ◌||◌, List, [], ◌∷◌, ◌++◌}
use Rattle.std.proofs.Common.{length, refl, ap, ◌∙◌, arith, Option, None}
use Rattle.std.specs.List.{list_any}
use borrow.Author.Tests.{lt-leb}
use Rattle.bad_line.specs.declared.rules.rule.Way.{Way}
use Rattle.bad_line.specs.declared.rules.rule.Rule.{Rule}
use Rattle.bad_line.specs.declared.rules.rule.Rule.TheVariants.{Lose, Repeat, Damage, BreakAfter, Delay, Pace}
use Rattle.bad_line.specs.declared.rules.rule.Rule.TheVariants.{RefuseConnections, LoseByChance, DamageByChance}
use Rattle.bad_line.specs.declared.rules.rule.Rule.TheVariants.{RestartAfter}
use Rattle.bad_line.specs.declared.rules.fate.Fate.{Fate}
use Rattle.bad_line.specs.Fates.{Passing, MayCome, loses, repeats, breaks, may_lose, may_damage, place_of, named_place}
use Rattle.bad_line.specs.Fates.{first_place}
use Rattle.bad_line.specs.Pieces.{Piece, Byte, Segment, bytes_of, out_of}
use Rattle.bad_line.specs.Crossing.{AreRuled, one_more}
use Rattle.bad_line.specs.Laws.{IsLater, AreLater, CrossesUntouched}
use Rattle.bad_line.proofs.Whole.{plain, built_plain, nothing_lost, nothing_damaged, out_of_plain}

-- One rule does nothing to a segment up to the last that came.
abbrev Leaves : Way → (number size : ℕ) → Rule → Type 0
Leaves way number size rule = (loses way number rule ≡ false) × (repeats way number rule ≡ false)
    × (breaks way number rule ≡ false) × (may_lose number rule ≡ false) × (may_damage number rule ≡ false)
    × (place_of way number size rule ≡ None)

leaves : (way : Way) (number size last : ℕ) (rule : Rule) → number ≤ last → IsLater last rule
    → Leaves way number size rule
leaves way number size last (LoseByChance percent from) below later =
    (refl, refl, refl, lt-leb from number (omega (arith, below, later)), refl, refl)
leaves way number size last (DamageByChance percent from) below later =
    (refl, refl, refl, refl, lt-leb from number (omega (arith, below, later)), refl)
leaves way number size last (Delay milliseconds from) below later = (refl, refl, refl, refl, refl, refl)
leaves way number size last (Pace milliseconds from) below later = (refl, refl, refl, refl, refl, refl)
leaves way number size last (Lose of_way span) below later = absurd later
leaves way number size last (Repeat of_way span) below later = absurd later
leaves way number size last (Damage of_way segment place) below later = absurd later
leaves way number size last (BreakAfter of_way segment) below later = absurd later
leaves way number size last (RefuseConnections milliseconds) below later = absurd later
leaves way number size last (RestartAfter segment) below later = absurd later

-- All of them do nothing.
abbrev AllLeave : Way → (number size : ℕ) → List Rule → Type 0
AllLeave way number size rules = (list_any (loses way number) rules ≡ false)
    × (list_any (repeats way number) rules ≡ false) × (list_any (breaks way number) rules ≡ false)
    × (list_any (may_lose number) rules ≡ false) × (list_any (may_damage number) rules ≡ false)
    × (named_place rules way number size ≡ None)

both_false : (a b : Bool) → a ≡ false → b ≡ false → (a || b) ≡ false
both_false a b first second = ap (λ (x : Bool). x || b) first ∙ second

all_leave : (way : Way) (number size last : ℕ) (rules : List Rule) → number ≤ last → AreLater last rules
    → AllLeave way number size rules
all_leave way number size last [] below later = (refl, refl, refl, refl, refl, refl)
all_leave way number size last (rule ∷ rules) below (first, rest) =
    let (a, b, c, d, e, f) = leaves way number size last rule below first in
    let (g, h, i, j, k, l) = all_leave way number size last rules below rest in (
      both_false _ _ a g,
      both_false _ _ b h,
      both_false _ _ c i,
      both_false _ _ d j,
      both_false _ _ e k,
      ap (λ (p : Option ℕ). first_place p (named_place rules way number size)) f ∙ l,
    )

comes_as_it_is : (rules : List Rule) (way : Way) (number size : ℕ) (fate : Fate) → AllLeave way number size rules
    → MayCome rules way number size fate → fate ≡ plain
comes_as_it_is rules way number size fate (a, b, c, d, e, f) (chance, may_do, is) =
    is ∙ built_plain (list_any (loses way number) rules) chance.lost (list_any (repeats way number) rules)
    (named_place rules way number size) chance.place (list_any (breaks way number) rules) a
    (nothing_lost rules number size chance may_do d) b f (nothing_damaged rules number size chance may_do e) c

-- The last segment that came has a number that none before it is above.
goes_up : (before after : Passing) (pieces : List Piece) → after.passed < 2 ^ 64 - 1 → AreRuled before pieces after
    → before.passed ≤ after.passed
goes_up before after [] few ruled = omega (arith, ap (λ (p : Passing). p.passed) ruled)
goes_up before after (Byte byte ∷ pieces) few ruled = goes_up before after pieces few ruled
goes_up before after (Segment segment fate ∷ pieces) few ruled =
    let up : min (before.passed + 1) (2 ^ 64 - 1) ≤ after.passed = goes_up (one_more before) after pieces few ruled.1 in
    omega (arith, up, few)

all_comes_later : (before after : Passing) (pieces : List Piece) → AreLater after.passed before.rules
    → after.passed < 2 ^ 64 - 1 → AreRuled before pieces after → out_of pieces ≡ bytes_of pieces
all_comes_later before after [] later few ruled = refl
all_comes_later before after (Byte byte ∷ pieces) later few ruled =
    ap (λ (x : List ℕ). byte ∷ x) (all_comes_later before after pieces later few ruled)
all_comes_later before after (Segment segment fate ∷ pieces) later few ruled =
    let number = (one_more before).passed in
    let is = comes_as_it_is before.rules before.way number (length segment) fate
    (all_leave before.way number (length segment) after.passed before.rules
    (goes_up (one_more before) after pieces few ruled.1) later) ruled.0 in
    ap (λ (x : List ℕ). x ++ out_of pieces) (out_of_plain fate segment is)
    ∙ ap (λ (x : List ℕ). segment ++ x) (all_comes_later (one_more before) after pieces later few ruled.1)

pub untouched_lem : CrossesUntouched
untouched_lem old new bytes out fates later few crosses =
    ap (λ (x : List ℕ). x ++ new.held)
    (crosses.out_is ∙ all_comes_later old.faults new.faults crosses.pieces later few crosses.are_ruled)
    ∙ crosses.joined
