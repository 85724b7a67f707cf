-- What one element does that names one place of a store.
use Rattle.std.proofs.Common.{◌≡◌, ℕ, ◌≤◌, ◌==◌, nat_le, Bool, true, false, ◌&&◌, ◌||◌, eqb, List, [], ◌∷◌, Option}
use Rattle.std.proofs.Common.{Some, None}
use Rattle.std.proofs.Common.{refl, sym, ap, ◌∙◌, arith, if◌then◌else◌}
use Rattle.std.proofs.lemmas.Bool.{false≢true, eqb-true, eq-eqb, ne_eqb, le-leb}
use Rattle.std.specs.Option.{option_map, option_map_or}
use Rattle.std.specs.List.{list_any}
use Rattle.std.specs.FinMap.{get}
use Rattle.uecp_elements.specs.declared.code.Code.TheVariants.{Applied}
use Rattle.uecp_elements.specs.Grammar.{Element}
use Rattle.rds_store.specs.Value.{ServiceData, Data, Store}
use Rattle.rds_store.specs.Names.{address, names_set, is_dsn, service_of}
use Rattle.rds_store.specs.Content.{taken}
use Rattle.rds_store.specs.Refusals.{is_out_of_range, adds_text, is_full, is_full_in, has_full_set, set_numbers}
use Rattle.rds_store.specs.Put.{change_where, put}
use Rattle.rds_store.specs.Kept.{at_service}
use Rattle.rds_store.proofs.Public.{get-change_where, same_places, put-changed}

-- the place is that of this set and service
abbrev pub is_at : (set number : ℕ) → (place : ℕ × ℕ) → Bool
is_at set number place = (place.0 == set) && (number == place.1)

and_both : (a b : Bool) → (a && b) ≡ true → (a ≡ true) × (b ≡ true)
and_both true true h = (refl, refl)
and_both true false h = absurd (false≢true h)
and_both false b h = absurd (false≢true h)

pub at_same : (set number : ℕ) → is_at set number (set, number) ≡ true
at_same set number = λ i. eq-eqb set set refl i && eq-eqb number number refl i

pub at_is : (set number : ℕ) (place : ℕ × ℕ) → is_at set number place ≡ true → place ≡ (set, number)
at_is set number place h =
    let both = and_both (place.0 == set) (number == place.1) h in
    λ i. (eqb-true place.0 set both.0 i, sym (eqb-true number place.1 both.1) i)

-- a number of a set that is there names that set alone
pub one_set : (set current k : ℕ) → 1 ≤ set → set ≤ 8 → names_set set current k ≡ (k == set)
one_set set current k low high =
    let a : eqb set 0x00 ≡ false = ne_eqb set 0x00 (λ e. omega arith) in
    let b : eqb set 0xFE ≡ false = ne_eqb set 0xFE (λ e. omega arith) in
    let c : eqb set 0xFF ≡ false = ne_eqb set 0xFF (λ e. omega arith) in
    rw (a, b, c) refl

-- the store in which that place has this
abbrev pub placed : Store → (set number : ℕ) → ServiceData → Store
placed w set number s = record w { places = change_where (is_at set number) (λ _. s) w.places }

pub get-placed_there : (w : Store) (set number : ℕ) (s t : ServiceData) → get w.places (set, number) ≡ Some t
    → get (placed w set number s).places (set, number) ≡ Some s
get-placed_there w set number s t there =
    get-change_where (is_at set number) (λ _. s) w.places (set, number)
    ∙ ap (λ b. option_map (λ y. if b then s else y) (get w.places (set, number))) (at_same set number)
    ∙ ap (option_map (λ y. s)) there

unchanged : (o : Option ServiceData) → option_map (λ y. y) o ≡ o
unchanged None = refl
unchanged (Some s) = refl

pub get-placed_other : (w : Store) (set number : ℕ) (s : ServiceData) (q : ℕ × ℕ) → is_at set number q ≡ false
    → get (placed w set number s).places q ≡ get w.places q
get-placed_other w set number s q other =
    get-change_where (is_at set number) (λ _. s) w.places q
    ∙ ap (λ b. option_map (λ y. if b then s else y) (get w.places q)) other
    ∙ unchanged (get w.places q)

-- two maps that agree at that place and at the others are one
by_places : (set number : ℕ) (m n : Data) → get m (set, number) ≡ get n (set, number)
    → ((q : ℕ × ℕ) → is_at set number q ≡ false → get m q ≡ get n q) → m ≡ n
by_places set number m n there others = same_places m n (λ q. by q (is_at set number q) refl)
  where
    by : (q : ℕ × ℕ) (b : Bool) → is_at set number q ≡ b → get m q ≡ get n q
    by q true e = ap (get m) (at_is set number q e) ∙ there ∙ ap (get n) (sym (at_is set number q e))
    by q false e = others q e

-- what is there may be said again, and what is said last stays
pub placed_again : (w : Store) (set number : ℕ) (s : ServiceData) → get w.places (set, number) ≡ Some s
    → w ≡ placed w set number s
placed_again w set number s there = λ i. record w { places = same i }
  where
    same : w.places ≡ (placed w set number s).places
    same = by_places set number _ _ (there ∙ sym (get-placed_there w set number s s there))
        (λ q other. sym (get-placed_other w set number s q other))

pub placed_over : (w : Store) (set number : ℕ) (s t u : ServiceData) → get w.places (set, number) ≡ Some u
    → placed (placed w set number s) set number t ≡ placed w set number t
placed_over w set number s t u there = λ i. record w { places = same i }
  where
    once : Store
    once = placed w set number s

    same : (placed (placed w set number s) set number t).places ≡ (placed w set number t).places
    same = by_places set number _ _
        (get-placed_there (placed w set number s) set number t s (get-placed_there w set number s u there)
        ∙ sym (get-placed_there w set number t u there))
        (λ q other. get-placed_other (placed w set number s) set number t q other
        ∙ get-placed_other w set number s q other ∙ sym (get-placed_other w set number t q other))

-- ---- One element.
module _ (w : Store) (set number : ℕ) (few : w.sets ≤ 8) (from_1 : 1 ≤ set) (within : set ≤ w.sets)
    (no_zero : 1 ≤ number) (listed : list_any (λ s. number == s) w.services ≡ true) where
  a_set : is_dsn w.sets set ≡ true
  a_set =
      let a : eqb set 0x00 ≡ false = ne_eqb set 0x00 (λ e. omega arith) in
      let b : eqb set 0xFE ≡ false = ne_eqb set 0xFE (λ e. omega arith) in
      let c : eqb set 0xFF ≡ false = ne_eqb set 0xFF (λ e. omega arith) in
      let d : nat_le set w.sets ≡ true = le-leb set w.sets within in
      rw (a, b, c, d) refl

  a_service : service_of w.services number ≡ Some number
  a_service =
      let a : eqb number 0x00 ≡ false = ne_eqb number 0x00 (λ e. omega arith) in
      rw (a, listed) refl

  not_full : (s : ServiceData) → get w.places (set, number) ≡ Some s → is_full s ≡ false → (ks : List ℕ)
      → list_any (λ k. names_set set w.current k && is_full_in w.places k number) ks ≡ false
  not_full s there room [] = refl
  not_full s there room (k ∷ ks) =
      ap (λ b. b || list_any (λ k. names_set set w.current k && is_full_in w.places k number) ks)
      (ap (λ b. b && is_full_in w.places k number) (one_set set w.current k from_1 (omega arith)) ∙ by (k == set) refl)
      ∙ not_full s there room ks
    where
      by : (b : Bool) → (k == set) ≡ b → (b && is_full_in w.places k number) ≡ false
      by true e = ap (λ k. is_full_in w.places k number) (eqb-true k set e)
          ∙ ap (λ o. option_map_or is_full o false) there ∙ room
      by false e = refl

  has_room : (e : Element) (s : ServiceData) → get w.places (set, number) ≡ Some s → (adds_text e && is_full s) ≡ false
      → (adds_text e && has_full_set w set number) ≡ false
  has_room e s there room = by (adds_text e) room
    where
      by : (b : Bool) → (b && is_full s) ≡ false → (b && has_full_set w set number) ≡ false
      by true r = not_full s there r (set_numbers w.sets)
      by false r = refl

  pub put_one : (e : Element) (s : ServiceData) → address e ≡ Some (set, number) → is_out_of_range e ≡ false
      → get w.places (set, number) ≡ Some s → (adds_text e && is_full s) ≡ false
      → put w e ≡ (placed w set number (taken e s), Applied)
  put_one e s address_is in_range there room =
      put-changed w e set number address_is number a_set a_service in_range (has_room e s there room)
      ∙ (λ i. (record w { places = same i }, Applied))
    where
      at_place : (q : ℕ × ℕ) → at_service (names_set set w.current) number q ≡ is_at set number q
      at_place q = ap (λ b. b && (number == q.1)) (one_set set w.current q.0 from_1 (omega arith))

      change : (q : ℕ × ℕ) (b : Bool) → is_at set number q ≡ b
          → option_map (λ y. if b then taken e y else y) (get w.places q)
          ≡ option_map (λ y. if b then taken e s else y) (get w.places q)
      change q true h = ap (option_map (λ y. taken e y)) (ap (get w.places) (at_is set number q h) ∙ there)
          ∙ sym (ap (option_map (λ y. taken e s)) (ap (get w.places) (at_is set number q h) ∙ there))
      change q false h = refl

      same : change_where (at_service (names_set set w.current) number) (taken e) w.places
          ≡ change_where (is_at set number) (λ _. taken e s) w.places
      same = same_places _ _ (λ q.
          get-change_where (at_service (names_set set w.current) number) (taken e) w.places q
          ∙ ap (λ b. option_map (λ y. if b then taken e y else y) (get w.places q)) (at_place q)
          ∙ change q (is_at set number q) refl
          ∙ sym (get-change_where (is_at set number) (λ _. taken e s) w.places q))
