-- What lines of objects are with a name in each.
use Rattle.std.proofs.Common.{◌≡◌, ◌==◌, ◌&&◌, ◌∙◌, ◌∷◌, ◌++◌, ℕ, Bool, List, [], true, false, not, refl, ap, codes}
use Rattle.std.specs.Prelude.{if◌then◌else◌}
use Rattle.device_edges.specs.Naming.{NamesEach, at_end, is_one_line, line_member, named}

both : (a b : Bool) → a && b ≡ true → (a ≡ true) × (b ≡ true)
both true true e = (refl, refl)
both true false e = cc
both false b e = cc

not_true : (a : Bool) → not a ≡ true → a ≡ false
not_true true e = cc
not_true false e = refl

-- the end of a line does not come before the brace
far : (object rest : List ℕ) → is_one_line object ≡ true → at_end (object ++ (codes "}\n" ++ rest)) ≡ false
far [] rest e = refl
far (b ∷ object) rest e = not_true (b == 10) (both (not (b == 10)) (is_one_line object) e).0

and_false : (a b : Bool) → b ≡ false → a && b ≡ false
and_false true b e = e
and_false false b e = refl

pub names_each : NamesEach
names_each name [] rest e = refl
names_each name (b ∷ object) rest e =
    let so = far object rest (both (not (b == 10)) (is_one_line object) e).1 in
    ap (λ (c : Bool). if c then line_member name ++ (b ∷ named name (object ++ (codes "}\n" ++ rest)))
    else b ∷ named name (object ++ (codes "}\n" ++ rest))) (and_false (b == 125) _ so)
    ∙ ap (λ l. b ∷ l) (names_each name object rest (both (not (b == 10)) (is_one_line object) e).1)
