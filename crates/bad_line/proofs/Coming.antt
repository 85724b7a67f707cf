-- What comes of a segment.
use Rattle.std.proofs.Common.{◌≡◌, ℕ, ◌≤◌, Bool, true, List, Option, IfSome, ap, ◌∙◌, subst}
use Rattle.std.specs.List.{list_any}
use Rattle.bad_line.specs.declared.rules.rule.Way.{Way}
use Rattle.bad_line.specs.declared.rules.rule.Rule.{Rule}
use Rattle.bad_line.specs.declared.rules.fate.Fate.{Fate}
use Rattle.bad_line.specs.Fates.{Passing, MayCome, fate_of, may_lose, may_damage}

-- the fate of the rules that are held, with what was drawn
pub may_come : (items r s t : List Rule) (seen : Passing) (way : Way) (number length : ℕ) (lost : Bool)
    (place : Option ℕ) (fate : Fate) → r ≡ items → s ≡ items → t ≡ items → items ≡ seen.rules → way ≡ seen.way
    → (lost ≡ true → list_any (may_lose number) r ≡ true)
    → IfSome place (λ p. (list_any (may_damage number) s ≡ true) × (1 ≤ p) × (p ≤ length))
    → fate ≡ fate_of t way number length (record { lost = lost; place = place })
    → MayCome seen.rules seen.way number length fate
may_come items r s t seen way number length lost place fate r_is s_is t_is items_are way_is loss damage is = (
  record { lost = lost; place = place },
  record {
    lost = λ drawn. subst (λ rules. list_any (may_lose number) rules ≡ true) (r_is ∙ items_are) (loss drawn);
    place = subst (λ rules.
        IfSome place (λ p. (list_any (may_damage number) rules ≡ true) × (1 ≤ p) × (p ≤ length))) (s_is ∙ items_are)
        damage;
  },
  is ∙ ap (λ rules. fate_of rules way number length (record { lost = lost; place = place })) (t_is ∙ items_are)
      ∙ ap (λ w. fate_of seen.rules w number length (record { lost = lost; place = place })) way_is,
)
