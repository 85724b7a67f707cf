-- Who gives its place, and those who stay.
use Rattle.std.proofs.Common.{◌≡◌, ◌≤◌, ◌<◌, ◌+◌, ◌⊎◌, ℕ, Bool, true, false, List, [], ◌∷◌, ◌++◌, length, take, drop}
use Rattle.std.proofs.Common.{ap, sym, subst, ◌∙◌, inl, inr, refl, cond, arith, length-append, append_assoc, get_or}
use Rattle.std.specs.List.{AllByRecursion}
use Rattle.std.proofs.Math.Seq.{take-append_seam, drop-append-add, get_or-append_seam}
use Rattle.std.proofs.lemmas.List.{get_or_append_left, get_or-map, length-map}
use Rattle.std.proofs.lemmas.List.Elements.{All-from_get_or}
use Rattle.std.proofs.lemmas.Bool.{false≢true}
use Rattle.page.specs.declared.guests.guest.Guest.{Guest}
use Rattle.page.specs.Events.{Past}
use Rattle.page.specs.Talk.{Talk}
use Rattle.page.specs.Visits.{GuestLives, AreServed, live_in}
use Rattle.seats.specs.declared.seat.Seat.{Seat}
use Rattle.seats.specs.Seats.{OfNone, IsOfMost, IsSeatGiven}
use Rattle.page.specs.declared.guests.room.Kind.TheVariants.{Connections}
use Rattle.page.specs.declared.guests.room.Room.{Room}
use Rattle.page.specs.declared.guests.room.Room.TheVariants.{Free, Given, Full}
use Rattle.page.specs.EventPlaces.{seat_of, seats_of, IsOver, AreHeard, GivesEvents}
use Rattle.page.specs.declared.clients.client.Phase.{Phase}
use Rattle.page.specs.declared.clients.client.Phase.TheVariants.{Asking, Live, Closing}
use Rattle.page.specs.Sending.{Standing}
use Rattle.page.specs.ClientView.{standing_of}
use Rattle.page.specs.Places.{RestsIn, HasNotAsked, HasAll, AllAreOwed, IsGiven, GivesPlace, HasPlace, IsFresh}
use Rattle.page.specs.Places.{ComesIn, StandsAmong, IsOwed, OwedStay}
use Rattle.page.proofs.Visitors.{served_gone, served_without, all_seam, weight}
use Rattle.page.proofs.Rounds.{Among, among_at, given_few}

module _ {C : Type 0} where
  before_none : (P : Guest C → Type 0) (now kept rest : List (Guest C)) (x : Guest C) (place : ℕ)
      → now ≡ kept ++ x ∷ rest → place ≡ length kept
      → ((k : ℕ) (d : Guest C) → k < place → P (get_or now k d) → ⊥) → OfNone P kept
  before_none P now kept rest x place now_is place_is below =
      All-from_get_or (λ g. P g → ⊥) kept x (λ i few.
      let more : i < place = omega (arith, few, place_is) in
      let is : get_or now i x ≡ get_or kept i x =
      ap (λ xs. get_or xs i x) now_is ∙ get_or_append_left kept (x ∷ rest) x i few in
      let Q : Guest C → Type 0 = λ g. P g → ⊥ in
      subst Q is (below i x more))

  without : (now : List (Guest C)) (place : ℕ) (x : Guest C) → (a : Among now place x)
      → take place now ++ drop (place + 1) now ≡ a.kept ++ a.rest
  without now place x a =
      let front : take place now ≡ a.kept = ap (λ xs. take place xs) a.now_is
      ∙ ap (λ i. take i (a.kept ++ x ∷ a.rest)) a.place_is ∙ take-append_seam a.kept (x ∷ a.rest) in
      let back : drop (place + 1) now ≡ a.rest = ap (λ xs. drop (place + 1) xs) a.now_is
      ∙ ap (λ i. drop (i + 1) (a.kept ++ x ∷ a.rest)) a.place_is ∙ drop-append-add a.kept (x ∷ a.rest) 1 in
      ap (λ xs. xs ++ drop (place + 1) now) front ∙ ap (λ ys. a.kept ++ ys) back

  pub left_fewer : (now : List (Guest C)) (place : ℕ) (d : Guest C) → place < length now
      → length (take place now ++ drop (place + 1) now) + 1 ≡ length now
  left_fewer now place d more =
      let x = get_or now place d in
      let a = among_at now place d more in
      let left = ap length (without now place x a) in
      let all = ap length a.now_is in
      omega (arith, left, all, length-append a.kept a.rest, length-append a.kept (x ∷ a.rest))

  -- who stands among these, where one is let go, and where one more comes
  left_or_one : (before behind kept rest : List (Guest C)) (g one : Guest C)
      → before ++ g ∷ behind ≡ kept ++ one ∷ rest → (g ≡ one) ⊎ StandsAmong (kept ++ rest) g
  left_or_one [] behind [] rest g one is = inl cc
  left_or_one [] behind (k ∷ kept) rest g one is =
      let same : k ≡ g = cc in
      inr ([], kept ++ rest, ap (λ h. h ∷ (kept ++ rest)) same)
  left_or_one (b ∷ before) behind [] rest g one is =
      let same : before ++ g ∷ behind ≡ rest = cc in
      inr (before, behind, sym same)
  left_or_one (b ∷ before) behind (k ∷ kept) rest g one is =
      let same : before ++ g ∷ behind ≡ kept ++ one ∷ rest = cc in
      elim (left_or_one before behind kept rest g one same) [
        | inl e ↦ inl e
        | inr (front, back, e) ↦ inr (k ∷ front, back, ap (λ xs. k ∷ xs) e)
      ]

  not_owed : (phase : Phase) → (phase ≡ Live → ⊥) → (g one : Guest C) → g ≡ one → RestsIn phase one → IsOwed g → ⊥
  not_owed phase other g one is rests owed =
      let same : standing_of g.client ≡ standing_of one.client = ap (λ (h : Guest C). standing_of h.client) is in
      elim owed [
        | inl live ↦ other (sym rests.0 ∙ ap (λ (s : Standing). s.phase) (sym same) ∙ live)
        | inr waits ↦ waits (ap (λ (s : Standing). s.output) same ∙ rests.1)
      ]

module _ {C : Type 0} (origin : C → ℕ) where
  seat_within : (from place : ℕ) (now : List (Guest C)) → IsSeatGiven from place (seats_of origin Connections now)
      → place < length now
  seat_within from place now given =
      let same : length (seats_of origin Connections now) ≡ length now = length-map now (seat_of origin Connections) in
      let few = given_few from place (seats_of origin Connections now) given in
      omega (arith, few, same)

  pub given_within : (from place : ℕ) (now : List (Guest C)) → IsGiven origin from place now → place < length now
  given_within from place now (inl first) = first.0
  given_within from place now (inr (inl (none, first))) = first.0
  given_within from place now (inr (inr (owed, given))) = seat_within from place now given

  pub gives_place : (from place : ℕ) (now : List (Guest C)) (d : Guest C) → IsGiven origin from place now
      → GivesPlace origin from now (take place now ++ drop (place + 1) now)
  gives_place from place now d (inl (more, is, below)) =
      let x = get_or now place d in
      let a = among_at now place d more in
      record {
        before = a.kept;
        one = x;
        behind = a.rest;
        among = a.now_is;
        chosen = inl (is d, before_none HasAll now a.kept a.rest x place a.now_is a.place_is below);
        others_are = without now place x a;
      }
  gives_place from place now d (inr (inl (none, (more, is, below)))) =
      let x = get_or now place d in
      let a = among_at now place d more in
      record {
        before = a.kept;
        one = x;
        behind = a.rest;
        among = a.now_is;
        chosen =
            inr (inl (
              none,
              is d,
              before_none HasNotAsked now a.kept a.rest x place a.now_is a.place_is below,
            ));
        others_are = without now place x a;
      }
  gives_place from place now d (inr (inr (owed, given))) =
      let more = seat_within from place now given in
      let x = get_or now place d in
      let a = among_at now place d more in
      let P : ℕ → Type 0 = λ i. IsSeatGiven from i (seats_of origin Connections now) in
      record {
        before = a.kept;
        one = x;
        behind = a.rest;
        among = a.now_is;
        chosen = inr (inr (owed, subst P a.place_is given));
        others_are = without now place x a;
      }

  -- the one that gives its place where all are owed something is of those from whose origin most ask
  seat_here : (before behind guests : List (Guest C)) (one : Guest C) (e : Seat) → guests ≡ before ++ one ∷ behind
      → get_or (seats_of origin Connections guests) (length before) e ≡ seat_of origin Connections one
  seat_here before behind guests one e is =
      let few : length before < length (before ++ one ∷ behind) =
      omega (arith, length-append before (one ∷ behind)) in
      ap (λ (gs : List (Guest C)). get_or (seats_of origin Connections gs) (length before) e) is
      ∙ get_or-map (seat_of origin Connections) (before ++ one ∷ behind) (length before) one e few
      ∙ ap (seat_of origin Connections) (get_or-append_seam before one behind one)

  seat_of_most : (from : ℕ) (before behind guests : List (Guest C)) (one : Guest C) → guests ≡ before ++ one ∷ behind
      → IsSeatGiven from (length before) (seats_of origin Connections guests)
      → IsOfMost from (seats_of origin Connections guests) (seat_of origin Connections one)
  seat_of_most from before behind guests one is (inl first) =
      let e = seat_of origin Connections one in
      let here = seat_here before behind guests one e is in
      let lags = (first.1 e).1 in
      let not : (get_or (seats_of origin Connections guests) (length before) e).is_behind ≡ false =
      ap (λ (s : Seat). s.is_behind) here in
      absurd (false≢true (sym not ∙ lags))
  seat_of_most from before behind guests one is (inr (none, first)) =
      let e = seat_of origin Connections one in
      let P : Seat → Type 0 = λ s. IsOfMost from (seats_of origin Connections guests) s in
      subst P (seat_here before behind guests one e is) (first.1 e)

  chosen_not_owed : (from : ℕ) (guests others : List (Guest C)) → (p : GivesPlace origin from guests others)
      → (g : Guest C) → g ≡ p.one → IsOwed g
      → (AllAreOwed guests → IsOfMost from (seats_of origin Connections guests) (seat_of origin Connections g) → ⊥) → ⊥
  chosen_not_owed from guests others p g is owed spared = elim p.chosen [
    | inl done ↦ not_owed Closing (λ e. cc e) g p.one is done.0 owed
    | inr (inl asks) ↦ not_owed Asking (λ e. cc e) g p.one is asks.1 owed
    | inr (inr (all, given)) ↦
        let P : Guest C → Type 0 = λ h. IsOfMost from (seats_of origin Connections guests)
        (seat_of origin Connections h) in
        spared all (subst P (sym is) (seat_of_most from p.before p.behind guests p.one p.among given))
  ]

  owed_left : (from : ℕ) (guests others : List (Guest C)) → GivesPlace origin from guests others
      → OwedStay origin from guests others
  owed_left from guests others p g (before, behind, is) owed spared =
      elim (left_or_one before behind p.before p.behind g p.one (sym is ∙ p.among)) [
        | inl e ↦ absurd (chosen_not_owed from guests others p g e owed spared)
        | inr (front, back, e) ↦ (front, back, p.others_are ∙ e)
      ]

  owed_as : (from : ℕ) (guests others : List (Guest C)) → others ≡ guests → OwedStay origin from guests others
  owed_as from guests others same g (before, behind, is) owed spared = (before, behind, same ∙ is)

  owed_placed : (from : ℕ) (guests : List (Guest C)) (has : Bool) (others : List (Guest C))
      → HasPlace origin from guests has others → OwedStay origin from guests others
  owed_placed from guests true others (inl (room, same)) = owed_as from guests others same
  owed_placed from guests true others (inr (full, gives)) = owed_left from guests others gives
  owed_placed from guests false others (full, none, same) = owed_as from guests others same

  pub owed_stay : (connection : C) (guests guests' : List (Guest C)) → ComesIn origin connection guests guests'
      → OwedStay origin (origin connection) guests guests'
  owed_stay connection guests guests' c g among owed spared =
      let (before, behind, is) = owed_placed (origin connection) guests c.has c.others c.place g among owed spared in
      elim c.stands [
        | inl same ↦ (before, behind, same ∙ is)
        | inr (some, one, fresh, same) ↦ (
          before,
          behind ++ one ∷ [],
          same ∙ ap (λ xs. xs ++ one ∷ []) is ∙ append_assoc before (g ∷ behind) (one ∷ []),
        )
      ]

  -- one more
  pub comes_not : (connection : C) (from : ℕ) (now others now' : List (Guest C)) (has : Bool)
      → from ≡ origin connection → HasPlace origin from now has others → now' ≡ others
      → ComesIn origin connection now now'
  comes_not connection from now others now' has here place is =
      let P : ℕ → Type 0 = λ n. HasPlace origin n now has others in
      record { has = has; others = others; place = subst P here place; stands = inl is }

  pub comes_in : (connection : C) (from : ℕ) (now others now' : List (Guest C)) (has : Bool) (g : Guest C)
      → from ≡ origin connection → HasPlace origin from now has others → has ≡ true → IsFresh connection g
      → now' ≡ others ++ g ∷ [] → ComesIn origin connection now now'
  comes_in connection from now others now' has g here place some fresh is =
      let P : ℕ → Type 0 = λ n. HasPlace origin n now has others in
      record { has = has; others = others; place = subst P here place; stands = inr (some, g, fresh, is) }

not_over : {C : Type 0} (room : Room) (heard : List (Guest C)) → IsOver room heard
    → ((place : ℕ) → room ≡ Given place → ⊥) → ⊥
not_over Free heard over not = over
not_over (Given place) heard over not = not place refl
not_over Full heard over not = over

module _ {C : Type 0} (talk : C → Talk) where
  lived_at : (own_only : Bool) (past : Past) (now : List (Guest C)) (place : ℕ) (d : Guest C)
      → AllByRecursion (GuestLives talk own_only past) now → place < length now
      → GuestLives talk own_only past (get_or now place d)
  lived_at own_only past now place d lives more =
      let a = among_at now place d more in
      let P : List (Guest C) → Type 0 = λ xs. AllByRecursion (GuestLives talk own_only past) xs in
      (all_seam talk (GuestLives talk own_only past) a.kept a.rest (get_or now place d) (subst P a.now_is lives)).1

  pub left_lived : (own_only : Bool) (past : Past) (now : List (Guest C)) (place : ℕ) (d : Guest C)
      → AreServed talk own_only past now → place < length now → GuestLives talk own_only past (get_or now place d)
  left_lived own_only past now place d served more = lived_at own_only past now place d served.lives more

  pub left_served : (own_only : Bool) (past : Past) (now : List (Guest C)) (place : ℕ) (d : Guest C)
      → AreServed talk own_only past now → place < length now
      → AreServed talk own_only past (take place now ++ drop (place + 1) now)
  left_served own_only past now place d served more =
      let x = get_or now place d in
      let a = among_at now place d more in
      let P : List (Guest C) → Type 0 = λ xs. AreServed talk own_only past xs in
      subst P (sym (without now place x a)) (served_gone talk own_only past a.kept a.rest x (subst P a.now_is served))

  -- ---- where one more gets events than may
  pub heard_few : (room : Room) (own_only : Bool) (past : Past) (heard : List (Guest C))
      → AreHeard talk room own_only past heard → live_in heard ≤ 64 → AreServed talk own_only past heard
  heard_few room own_only past heard h few = record { lives = h.lives; few = h.few; live_few = few }

  over_as : (room : Room) (place : ℕ) (own_only : Bool) (past : Past) (heard : List (Guest C))
      → AreHeard talk room own_only past heard → 64 < live_in heard → room ≡ Given place → IsOver (Given place) heard
  over_as room place own_only past heard h more is =
      let P : Room → Type 0 = λ r. IsOver r heard in
      elim h.live_few [
        | inl few ↦ absurd (omega (arith, few, more))
        | inr over ↦ subst P is over
      ]

  pub over_within : (room : Room) (place : ℕ) (own_only : Bool) (past : Past) (heard : List (Guest C))
      → AreHeard talk room own_only past heard → 64 < live_in heard → room ≡ Given place → place < length heard
  over_within room place own_only past heard h more is = (over_as room place own_only past heard h more is).1

  pub over_lived : (room : Room) (place : ℕ) (own_only : Bool) (past : Past) (heard : List (Guest C)) (d : Guest C)
      → AreHeard talk room own_only past heard → 64 < live_in heard → room ≡ Given place
      → GuestLives talk own_only past (get_or heard place d)
  over_lived room place own_only past heard d h more is =
      lived_at own_only past heard place d h.lives (over_within room place own_only past heard h more is)

  pub over_left : (room : Room) (place : ℕ) (own_only : Bool) (past : Past) (heard : List (Guest C)) (d : Guest C)
      → AreHeard talk room own_only past heard → 64 < live_in heard → room ≡ Given place
      → AreServed talk own_only past (take place heard ++ drop (place + 1) heard)
  over_left room place own_only past heard d h more is =
      let (one_more, within, live) = over_as room place own_only past heard h more is in
      let x = get_or heard place d in
      let a = among_at heard place d within in
      let L : List (Guest C) → Type 0 = λ xs. AllByRecursion (GuestLives talk own_only past) xs in
      let N : List (Guest C) → Type 0 = λ xs. length xs ≤ 128 in
      let f : Bool → ℕ = λ b. cond b 1 0 in
      let one : weight talk x ≡ 1 = ap f (live d) in
      let same = ap (λ (xs : List (Guest C)). live_in xs) a.now_is in
      let less : live_in (a.kept ++ x ∷ a.rest) ≤ 64 + weight talk x = omega (arith, one, same, one_more) in
      let P : List (Guest C) → Type 0 = λ xs. AreServed talk own_only past xs in
      subst P (sym (without heard place x a))
      (served_without talk own_only past a.kept a.rest x (subst L a.now_is h.lives) (subst N a.now_is h.few) less)

  pub over_gives : (room : Room) (place : ℕ) (own_only : Bool) (past : Past) (heard left : List (Guest C))
      → AreHeard talk room own_only past heard → 64 < live_in heard → room ≡ Given place
      → left ≡ take place heard ++ drop (place + 1) heard → GivesEvents room heard left
  over_gives room place own_only past heard left h more is left_is =
      inr ((over_as room place own_only past heard h more is).0, place, is, left_is)

  pub over_not : (room : Room) (own_only : Bool) (past : Past) (heard : List (Guest C))
      → AreHeard talk room own_only past heard → 64 < live_in heard → ((place : ℕ) → room ≡ Given place → ⊥) → ⊥
  over_not room own_only past heard h more not = elim h.live_few [
    | inl few ↦ omega (arith, few, more)
    | inr over ↦ not_over room heard over not
  ]
