-- The main service of a set is one, by whichever number it is told.
use Rattle.std.proofs.Common.{◌≡◌, inl, inr, ℕ, ◌==◌, Bool, true, false, cond, ◌||◌, ◌&&◌}
use Rattle.std.proofs.Common.{[], ◌∷◌, map, refl, ◌∙◌, ap, sym, arith}
use Rattle.std.specs.Prelude.{codes, unwrap_or}
use Rattle.serde_json.specs.Data.{Data}
use Rattle.page.specs.Members.{number_at, number_or_0}
use Rattle.page.specs.Shown.{Service, new_service, is_element, is_shown, is_stored, tells, told, is_main}
use Rattle.page.specs.Shown.{names_set, is_meant, told_if, with_new, told_services}
use Rattle.page.specs.Air.{Air, set_of, after_telling}
use Rattle.page.specs.CardLaws.{MainOnce}

or_last : (a b : Bool) → b ≡ true → a || b ≡ true
or_last true b h = refl
or_last false b h = h

or_first : (a b : Bool) → a ≡ true → a || b ≡ true
or_first a b h = ap (λ t. t || b) h

both : (a b : Bool) → a ≡ true → b ≡ true → a && b ≡ true
both a b h k = ap (λ t. t && b) h ∙ k

same_number : (a b : ℕ) → a ≡ b → (a == b) ≡ true
same_number a b h = grind (arith, h)

-- what is told of a service leaves which it is
record Keeps (x y : Service) : Type 0 where
  pub set : x.set ≡ y.set
  pub service : x.service ≡ y.service
  pub main : x.main ≡ y.main

either : (b : Bool) (x y z : Service) → Keeps x z → Keeps y z → Keeps (cond b x y) z
either true x y z h k = h
either false x y z h k = k

told_keeps : (d : Data) (s : Service) → Keeps (told d s) s
told_keeps d s =
    let same : (x : Service) → x.set ≡ s.set → x.service ≡ s.service → x.main ≡ s.main → Keeps x s =
    λ x set service main. record { set = set; service = service; main = main } in
    either (is_element (codes "pi") d) _ _ s (same _ refl refl refl)
    (either (is_element (codes "ps") d) _ _ s (same _ refl refl refl)
    (either (is_element (codes "traffic") d) _ _ s (same _ refl refl refl)
    (either (is_element (codes "pty") d) _ _ s (same _ refl refl refl)
    (either (is_element (codes "rt") d) _ _ s (same _ refl refl refl)
    (either (is_shown d) _ _ s (same _ refl refl refl)
    (either (is_stored d) _ _ s (same _ refl refl refl) (same _ refl refl refl)))))))

telling_is : (d : Data) (s : Air) → is_element (codes "select") d ≡ false → tells d ≡ true
    → after_telling d s
    ≡ record s { services = told_services s.current (set_of s d) (number_or_0 (codes "service") d) d s.services }
telling_is d s other tells_it =
    let behind : Air = record s {
      services = told_services s.current (set_of s d) (number_or_0 (codes "service") d) d s.services;
    } in
    let chosen : Air = record s { current = unwrap_or (number_at (codes "set") d) s.current } in
    ap (λ b. cond b chosen (cond (tells d) behind s)) other ∙ ap (λ b. cond b behind s) tells_it

stored_tells : (d : Data) → is_stored d ≡ true → tells d ≡ true
stored_tells d h = or_last _ _ h

pub main_once : MainOnce
main_once d e s none stored other tells_e other_e named by =
    let n = number_or_0 (codes "service") d in
    let m = number_or_0 (codes "service") e in
    let k = set_of s d in
    let j = set_of s e in
    let c = s.current in
    let first : Service = new_service k n true in
    let x : Service = told d first in
    let keeps = told_keeps d first in
    let main : is_main k n d [] ≡ true = or_last (n == 0) _ (both (is_stored d) _ stored refl) in
    let one : told_services c k n d s.services ≡ x ∷ [] =
    ap (λ ss. told_services c k n d ss) none ∙ ap (λ b. told d (new_service k n b) ∷ []) main in
    let s1 : Air = record s { services = told_services c k n d s.services } in
    let s2 : Air = record s1 { services = told_services c j m e s1.services } in
    let both_told : after_telling e (after_telling d s) ≡ s2 =
    ap (λ a. after_telling e a) (telling_is d s other (stored_tells d stored)) ∙ telling_is e s1 other_e tells_e in
    let in_set : names_set c j x.set ≡ true = ap (λ q. names_set c j q) keeps.set ∙ named in
    let meant : (x.service == m || (m == 0 && x.main)) ≡ true = elim by [
      | inl is_0 ↦ or_last (x.service == m) _ (both (m == 0) x.main (same_number m 0 is_0) keeps.main)
      | inr is_n ↦ or_first (x.service == m) _ (same_number x.service m (keeps.service ∙ sym is_n))
    ] in
    let it : is_meant c j m x ≡ true = both (names_set c j x.set) _ in_set meant in
    ap (λ (a : Air). a.services) both_told ∙ ap (λ ss. told_services c j m e ss) one
    ∙ ap (λ b. cond (b || false) (map (told_if c j m e) (x ∷ [])) (with_new j m e (x ∷ []))) it
    ∙ ap (λ b. cond b (told e x) x ∷ []) it
