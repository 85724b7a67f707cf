-- One place in the list of all who ask, and a round through it.
use Rattle.std.proofs.Common.{◌≡◌, ◌≤◌, ◌<◌, ◌+◌, ◌⊎◌, ℕ, zero, suc, Bool, true, false, List, [], ◌∷◌, ◌++◌, length}
use Rattle.std.proofs.Common.{take, drop}
use Rattle.std.proofs.Common.{refl, sym, ap, subst, ◌∙◌, inl, inr, arith, length-append, append_assoc, get_or, set}
use Rattle.std.proofs.Common.{cond}
use Rattle.std.specs.List.{AllByRecursion}
use Rattle.std.proofs.lemmas.Bool.{cases_lt}
use Rattle.std.proofs.lemmas.List.{append-nil, get_or-map, get_or-set_other, get_or_read, length-map, length-set}
use Rattle.std.proofs.Math.Seq.{get_or-append_seam, set-append_seam, take-append_seam, drop-append-add}
use Rattle.page.specs.declared.guests.connection.Passed.{Passed}
use Rattle.page.specs.declared.guests.guest.Guest.{Guest}
use Rattle.page.specs.declared.guests.guest.Deed.{Deed}
use Rattle.page.specs.declared.state.silence.Moment.{Moment}
use Rattle.page.specs.Events.{Past}
use Rattle.page.specs.State.{State}
use Rattle.page.specs.Answers.{Source}
use Rattle.page.specs.ClientView.{standing_of}
use Rattle.page.specs.Talk.{Talk}
use Rattle.page.specs.Visits.{GuestLives, HearsThen, TakesTurn, AllDo}
use Rattle.page.specs.Visits.{AreServed, gets_events, live_in}
use Rattle.seats.specs.declared.seat.Seat.{Seat}
use Rattle.seats.specs.Seats.{IsSeatGiven}
use Rattle.page.specs.declared.guests.room.Kind.{Kind}
use Rattle.page.specs.declared.guests.room.Kind.TheVariants.{Events}
use Rattle.page.specs.declared.guests.room.Room.{Room}
use Rattle.page.specs.declared.guests.room.Room.TheVariants.{Free, Given, Full}
use Rattle.page.specs.EventPlaces.{is_full, seat_of, seats_of, HasRoom, IsOver, AreHeard, GivesEvents, HearsOne}
use Rattle.page.proofs.Visiting.{lives_turn, lives_heard, lives_sent}
use Rattle.page.proofs.Visitors.{served_set, served_gone, turn_same, heard_free, sent_same, all_seam, weight}
use Rattle.page.proofs.Visitors.{lives_set, live_set, one_most}

module _ {X : Type 0} where
  -- the one at a place among others
  pub record Among (now : List X) (place : ℕ) (x : X) : Type 0 where
    pub kept : List X
    pub rest : List X
    pub now_is : now ≡ kept ++ x ∷ rest
    pub place_is : place ≡ length kept

  first_rest : (xs : List X) → 0 < length xs → (x : X) × (ys : List X) × (xs ≡ x ∷ ys)
  first_rest [] some = absurd (elim some [ ])
  first_rest (x ∷ xs) some = (x, xs, refl)

  among_more : (y : X) (now : List X) (place : ℕ) (x : X) → Among now place x → Among (y ∷ now) (place + 1) x
  among_more y now place x a = record {
    kept = y ∷ a.kept;
    rest = a.rest;
    now_is = ap (λ xs. y ∷ xs) a.now_is;
    place_is = omega (arith, a.place_is);
  }

  pub among_after : (now kept left : List X) (place : ℕ) (d : X) → now ≡ kept ++ left → place ≡ length kept
      → place < length now → Among now place (get_or now place d)
  among_after now kept left place d is place_is more =
      let all = ap length is in
      let some : 0 < length left = omega (arith, place_is, all, length-append kept left, more) in
      let parts = first_rest left some in
      let seam : now ≡ kept ++ parts.0 ∷ parts.1 = is ∙ ap (λ ys. kept ++ ys) parts.2 in
      let one : get_or now place d ≡ parts.0 = ap (λ xs. get_or xs place d) seam
      ∙ ap (λ n. get_or (kept ++ parts.0 ∷ parts.1) n d) place_is
      ∙ get_or-append_seam kept parts.0 parts.1 d in
      record {
        kept = kept;
        rest = parts.1;
        now_is = seam ∙ ap (λ x. kept ++ x ∷ parts.1) (sym one);
        place_is = place_is;
      }

  take_drop : (now : List X) (place : ℕ) → place ≤ length now → (kept : List X) × (left : List X)
      × (now ≡ kept ++ left) × (place ≡ length kept)
  take_drop now zero few = ([], now, refl, refl)
  take_drop [] (suc place) few = absurd (elim few [ ])
  take_drop (x ∷ now) (suc place) few =
      let less : place ≤ length now = omega (arith, few) in
      let more = take_drop now place less in
      (x ∷ more.0, more.1, ap (λ xs. x ∷ xs) more.2, omega (arith, more.3))

  pub among_at : (now : List X) (place : ℕ) (d : X) → place < length now → Among now place (get_or now place d)
  among_at now place d more =
      let few : place ≤ length now = omega (arith, more) in
      let parts = take_drop now place few in
      among_after now parts.0 parts.1 place d parts.2 parts.3 more

  pub set_among : (now : List X) (place : ℕ) (x y : X) → (a : Among now place x)
      → set now place y ≡ a.kept ++ y ∷ a.rest
  set_among now place x y a =
      ap (λ xs. set xs place y) a.now_is ∙ ap (λ i. set (a.kept ++ x ∷ a.rest) i y) a.place_is
      ∙ set-append_seam a.kept x a.rest y

  pub gone_among : (now : List X) (place : ℕ) (x y : X) → (a : Among now place x)
      → take place (set now place y) ++ drop (place + 1) (set now place y) ≡ a.kept ++ a.rest
  gone_among now place x y a =
      let is = set_among now place x y a in
      let front : take place (set now place y) ≡ a.kept = ap (λ xs. take place xs) is
      ∙ ap (λ i. take i (a.kept ++ y ∷ a.rest)) a.place_is ∙ take-append_seam a.kept (y ∷ a.rest) in
      let back : drop (place + 1) (set now place y) ≡ a.rest = ap (λ xs. drop (place + 1) xs) is
      ∙ ap (λ i. drop (i + 1) (a.kept ++ y ∷ a.rest)) a.place_is ∙ drop-append-add a.kept (y ∷ a.rest) 1 in
      ap (λ xs. xs ++ drop (place + 1) (set now place y)) front ∙ ap (λ ys. a.kept ++ ys) back

  pub get_set : (now : List X) (place : ℕ) (x d : X) → place < length now → get_or (set now place x) place d ≡ x
  get_set now place x d more =
      let a = among_at now place d more in
      ap (λ xs. get_or xs place d) (set_among now place (get_or now place d) x a)
      ∙ ap (λ n. get_or (a.kept ++ x ∷ a.rest) n d) a.place_is ∙ get_or-append_seam a.kept x a.rest d

-- ---- the one who gives its place has one
given_taken : (from place : ℕ) (seats : List Seat) (e : Seat) → IsSeatGiven from place seats
    → (get_or seats place e).is_taken ≡ true
given_taken from place seats e (inl first) = (first.1 e).0
given_taken from place seats e (inr (none, first)) = (first.1 e).0

pub given_few : (from place : ℕ) (seats : List Seat) → IsSeatGiven from place seats → place < length seats
given_few from place seats (inl first) = first.0
given_few from place seats (inr (none, first)) = first.0

module _ {C : Type 0} (talk : C → Talk) (reads : C → List ℕ → Passed → C → Type 0) where
  -- ---- one that is heard, and then sent what waits
  then_lives : (source : Source) (own_only : Bool) (g : Guest C) (stays : Bool) (g' : Guest C)
      → GuestLives talk own_only source.past g → HearsThen talk reads source own_only g stays g'
      → GuestLives talk own_only source.past g'
  then_lives source own_only g true g' l (heard, hears, now) =
      lives_sent talk own_only source.past now.events now.written heard g'
      (lives_heard talk reads source own_only true g heard l hears) now.sends
  then_lives source own_only g false g' l (inl hears) = lives_heard talk reads source own_only false g g' l hears
  then_lives source own_only g false g' l (inr (heard, keeps, hears, now)) =
      lives_sent talk own_only source.past now.events now.written heard g'
      (lives_heard talk reads source own_only true g heard l hears) now.sends

  then_free : (source : Source) (own_only : Bool) (g g' : Guest C) → HearsThen talk reads source own_only g true g'
      → (weight talk g' ≤ weight talk g) ⊎ (source.is_full ≡ false)
  then_free source own_only g g' (heard, hears, now) =
      let sent = sent_same talk source.past now.events now.written heard g' now.sends in
      elim (heard_free talk reads source own_only true g heard hears) [
        | inl less ↦ inl (omega (arith, less, sent))
        | inr free ↦ inr free
      ]

  -- the source of one that is heard, where there is this place of events
  abbrev pub source_in : State → Past → Moment → Room → Source
  source_in shown past moment room = record {
    shown = shown;
    past = past;
    moment = moment;
    is_full = is_full room;
  }

  -- by what the calls said
  pub heard_from : (shown : State) (past : Past) (moment : Moment) (own_only own_only' full : Bool) (room : Room)
      (now : List (Guest C)) (place : ℕ) (g g' : Guest C) (stays : Bool) (source : Source)
      → source ≡ record { shown = shown; past = past; moment = moment; is_full = full }
      → full ≡ is_full room → own_only' ≡ own_only → g ≡ get_or now place g
      → HearsThen talk reads source own_only' g stays g'
      → HearsThen talk reads (source_in shown past moment room) own_only (get_or now place g) stays g'
  heard_from shown past moment own_only own_only' full room now place g g' stays source source_is full_is own_is is
      hears =
      let all : source ≡ source_in shown past moment room = source_is
      ∙ ap (λ (b : Bool). let s : Source = record { shown = shown; past = past; moment = moment; is_full = b } in s)
      full_is in
      let P : Source → Type 0 = λ s. HearsThen talk reads s own_only' g stays g' in
      let Q : Bool → Type 0 = λ b. HearsThen talk reads (source_in shown past moment room) b g stays g' in
      let R : Guest C → Type 0 = λ h. HearsThen talk reads (source_in shown past moment room) own_only h stays g' in
      subst R is (subst Q own_is (subst P all hears))

  pub heard_lived : (shown : State) (past : Past) (moment : Moment) (own_only : Bool) (room : Room)
      (now : List (Guest C)) (place : ℕ) (d g' : Guest C) (stays : Bool) → AreServed talk own_only past now
      → place < length now
      → HearsThen talk reads (source_in shown past moment room) own_only (get_or now place d) stays g'
      → GuestLives talk own_only past g'
  heard_lived shown past moment own_only room now place d g' stays served more hears =
      let a = among_at now place d more in
      let P : List (Guest C) → Type 0 = λ xs. AreServed talk own_only past xs in
      let parts = all_seam talk (GuestLives talk own_only past) a.kept a.rest (get_or now place d)
      (subst P a.now_is served).lives in
      then_lives (source_in shown past moment room) own_only (get_or now place d) stays g' parts.1 hears

  given_live : (origin : C → ℕ) (from place : ℕ) (now : List (Guest C)) (d : Guest C) → place < length now
      → IsSeatGiven from place (seats_of origin Events now)
      → gets_events (standing_of (get_or now place d).client).phase ≡ true
  given_live origin from place now d more given =
      let e = seat_of origin Events d in
      let is : get_or (seats_of origin Events now) place e ≡ seat_of origin Events (get_or now place d) =
      get_or-map (seat_of origin Events) now place d e more in
      ap (λ (s : Seat). s.is_taken) (sym is) ∙ given_taken from place (seats_of origin Events now) e given

  given_among : (origin : C → ℕ) (kind : Kind) (from place : ℕ) (now : List (Guest C))
      → IsSeatGiven from place (seats_of origin kind now) → place < length now
  given_among origin kind from place now given =
      let few = given_few from place (seats_of origin kind now) given in
      let same : length (seats_of origin kind now) ≡ length now = length-map now (seat_of origin kind) in
      omega (arith, few, same)

  -- ---- one that was heard may be one more that gets events
  live_among : (now : List (Guest C)) (place : ℕ) (d g' : Guest C) → place < length now
      → live_in (set now place g') + weight talk (get_or now place d) ≡ live_in now + weight talk g'
  live_among now place d g' more =
      let g = get_or now place d in
      let a = among_at now place d more in
      let then = ap (λ (xs : List (Guest C)). live_in xs) (set_among now place g g' a) in
      let before = ap (λ (xs : List (Guest C)). live_in xs) a.now_is in
      let both = live_set talk a.kept a.rest g g' in
      omega (arith, then, before, both)

  over_given : (origin : C → ℕ) (from there : ℕ) (now : List (Guest C)) (place : ℕ) (d g' : Guest C)
      → live_in now ≤ 64 → place < length now → IsSeatGiven from there (seats_of origin Events now)
      → 64 < live_in (set now place g') → IsOver (Given there) (set now place g')
  over_given origin from there now place d g' few more given over =
      let g = get_or now place d in
      let both = live_among now place d g' more in
      let most : weight talk g' ≤ 1 = one_most (standing_of g'.client).phase in
      let within = given_among origin Events from there now given in
      let other : there ≡ place → ⊥ = λ same.
      let live = given_live origin from there now d within given in
      let f : Bool → ℕ = λ b. cond b 1 0 in
      let here : weight talk (get_or now there d) ≡ 1 = ap f live in
      let one : weight talk g ≡ 1 = ap (λ i. weight talk (get_or now i d)) (sym same) ∙ here in
      omega (arith, few, both, most, over, one) in
      let long : length (set now place g') ≡ length now = length-set now place g' in (
        omega (arith, few, both, most, over),
        omega (arith, within, long),
        (λ e.
            let read : get_or (set now place g') there e ≡ get_or now there e =
            get_or-set_other now place there g' e other in
            ap (λ (h : Guest C). gets_events (standing_of h.client).phase) read
            ∙ given_live origin from there now e within given),
      )

  over_or_not : (origin : C → ℕ) (from : ℕ) (room : Room) (now : List (Guest C)) (place : ℕ) (d g' : Guest C)
      → live_in now ≤ 64 → place < length now → HasRoom origin from now room
      → ((weight talk g' ≤ weight talk (get_or now place d)) ⊎ (is_full room ≡ false))
      → (live_in (set now place g') ≤ 64) ⊎ IsOver room (set now place g')
  over_or_not origin from Free now place d g' few more has fewer =
      let both = live_among now place d g' more in
      let most : weight talk g' ≤ 1 = one_most (standing_of g'.client).phase in
      inl (omega (arith, has, both, most))
  over_or_not origin from (Given there) now place d g' few more has fewer =
      elim (cases_lt 64 (live_in (set now place g'))) [
        | inl over ↦ inr (over_given origin from there now place d g' few more has.1 over)
        | inr less ↦ inl less
      ]
  over_or_not origin from Full now place d g' few more has (inl less) =
      let both = live_among now place d g' more in
      inl (omega (arith, few, both, less))
  over_or_not origin from Full now place d g' few more has (inr free) = cc

  pub heard_stays : (origin : C → ℕ) (from : ℕ) (shown : State) (past : Past) (moment : Moment) (own_only : Bool)
      (room : Room) (now : List (Guest C)) (place : ℕ) (d g' : Guest C) → AreServed talk own_only past now
      → place < length now → HasRoom origin from now room
      → HearsThen talk reads (source_in shown past moment room) own_only (get_or now place d) true g'
      → AreHeard talk room own_only past (set now place g')
  heard_stays origin from shown past moment own_only room now place d g' served more has hears =
      let g = get_or now place d in
      let a = among_at now place d more in
      let is = set_among now place g g' a in
      let L : Guest C → Type 0 = λ h. GuestLives talk own_only past h in
      let P : List (Guest C) → Type 0 = λ xs. AllByRecursion L xs in
      let lives = heard_lived shown past moment own_only room now place d g' true served more hears in
      let long : length (set now place g') ≡ length now = length-set now place g' in
      let few = served.few in
      record {
        lives =
            subst P (sym is) (lives_set talk own_only past a.kept a.rest g g' (subst P a.now_is served.lives) lives);
        few = omega (arith, few, long);
        live_few =
            over_or_not origin from room now place d g' served.live_few more has
            (then_free (source_in shown past moment room) own_only g g' hears);
      }

  pub heard_goes : (past : Past) (own_only : Bool) (now : List (Guest C)) (place : ℕ) (d g' : Guest C)
      → AreServed talk own_only past now → place < length now
      → AreServed talk own_only past (take place (set now place g') ++ drop (place + 1) (set now place g'))
  heard_goes past own_only now place d g' served more =
      let g = get_or now place d in
      let a = among_at now place d more in
      let P : List (Guest C) → Type 0 = λ xs. AreServed talk own_only past xs in
      subst P (sym (gone_among now place g g' a))
      (served_gone talk own_only past a.kept a.rest g (subst P a.now_is served))

  -- the place of events is for one that comes from where the one comes that is heard
  pub room_here : (origin : C → ℕ) (from : ℕ) (room : Room) (now : List (Guest C)) (place : ℕ) (d h : Guest C)
      → place < length now → h ≡ get_or now place h → from ≡ origin h.connection → HasRoom origin from now room
      → HasRoom origin (origin (get_or now place d).connection) now room
  room_here origin from room now place d h more is from_is has =
      let here : h ≡ get_or now place d = get_or_read now place h more is d in
      let same : from ≡ origin (get_or now place d).connection =
      from_is ∙ ap (λ (k : Guest C). origin k.connection) here in
      subst (λ n. HasRoom origin n now room) same has

  -- what became of the one, and that the others stand as they stood
  pub heard_one : (origin numbered : C → ℕ) (number : ℕ) (shown : State) (past : Past) (moment : Moment)
      (own_only : Bool) (room : Room) (now : List (Guest C)) (place : ℕ) (d g' : Guest C) (now' : List (Guest C))
      → place < length now → numbered (get_or now place d).connection ≡ number
      → HasRoom origin (origin (get_or now place d).connection) now room
      → HearsThen talk reads (source_in shown past moment room) own_only (get_or now place d) true g'
      → GivesEvents room (set now place g') now'
      → HearsOne talk origin numbered reads number shown past moment own_only now now'
  heard_one origin numbered number shown past moment own_only room now place d g' now' more named has hears gives =
      let a = among_at now place d more in
      record {
        before = a.kept;
        one = get_or now place d;
        behind = a.rest;
        among = a.now_is;
        number_is = named;
        room = room;
        has_room = has;
        one' = g';
        stays = true;
        hears = hears;
        heard = set now place g';
        heard_are = set_among now place (get_or now place d) g' a;
        gives = gives;
      }

  pub heard_gone : (origin numbered : C → ℕ) (number : ℕ) (shown : State) (past : Past) (moment : Moment)
      (own_only : Bool) (room : Room) (now : List (Guest C)) (place : ℕ) (d g' : Guest C) (now' : List (Guest C))
      → AreServed talk own_only past now
      → place < length now → numbered (get_or now place d).connection ≡ number
      → HasRoom origin (origin (get_or now place d).connection) now room
      → HearsThen talk reads (source_in shown past moment room) own_only (get_or now place d) false g'
      → now' ≡ take place (set now place g') ++ drop (place + 1) (set now place g')
      → HearsOne talk origin numbered reads number shown past moment own_only now now'
  heard_gone origin numbered number shown past moment own_only room now place d g' now' served more named has hears
      is =
      let a = among_at now place d more in
      let left = take place (set now place g') ++ drop (place + 1) (set now place g') in
      record {
        before = a.kept;
        one = get_or now place d;
        behind = a.rest;
        among = a.now_is;
        number_is = named;
        room = room;
        has_room = has;
        one' = g';
        stays = false;
        hears = hears;
        heard = left;
        heard_are = gone_among now place (get_or now place d) g' a;
        gives = inl ((heard_goes past own_only now place d g' served more).live_few, is);
      }

module _ {C : Type 0} (talk : C → Talk) (own_only : Bool) (deed : Deed) (past : Past) where
  stays_last : (passed kept : List (Guest C)) (g g' : Guest C) → AllDo talk deed past passed kept
      → TakesTurn talk deed past g true g' → AllDo talk deed past (passed ++ g ∷ []) (kept ++ g' ∷ [])
  stays_last [] kept g g' does turn = (g', inl (turn, ([], ap (λ ks. ks ++ g' ∷ []) does, refl)))
  stays_last (p ∷ passed) kept g g' (p', inl (first, (others, is, does))) turn = (
    p',
    inl (
      first,
      (others ++ g' ∷ [], ap (λ ks. ks ++ g' ∷ []) is, stays_last passed others g g' does turn),
    ),
  )
  stays_last (p ∷ passed) kept g g' (p', inr (first, does)) turn =
      (p', inr (first, stays_last passed kept g g' does turn))

  goes_last : (passed kept : List (Guest C)) (g g' : Guest C) → AllDo talk deed past passed kept
      → TakesTurn talk deed past g false g' → AllDo talk deed past (passed ++ g ∷ []) kept
  goes_last [] kept g g' does turn = (g', inr (turn, does))
  goes_last (p ∷ passed) kept g g' (p', inl (first, (others, is, does))) turn =
      (p', inl (first, (others, is, goes_last passed others g g' does turn)))
  goes_last (p ∷ passed) kept g g' (p', inr (first, does)) turn =
      (p', inr (first, goes_last passed kept g g' does turn))

  -- so far: those who were passed did it, and those who are left have not yet
  pub record HasDone (before now : List (Guest C)) (place : ℕ) : Type 0 where
    pub passed : List (Guest C)
    pub kept : List (Guest C)
    pub left : List (Guest C)
    pub split : before ≡ passed ++ left
    pub now_is : now ≡ kept ++ left
    pub place_is : place ≡ length kept
    pub does : AllDo talk deed past passed kept
    pub served : AreServed talk own_only past now

  pub none_done : (before : List (Guest C)) → AreServed talk own_only past before → HasDone before before 0
  none_done before served = record {
    passed = [];
    kept = [];
    left = before;
    split = refl;
    now_is = refl;
    place_is = refl;
    does = refl;
    served = served;
  }

  nothing : (xs : List (Guest C)) → length xs ≤ 0 → xs ≡ []
  nothing [] few = refl
  nothing (x ∷ xs) few = absurd (elim few [ ])

  pub all_done : (before now : List (Guest C)) (place : ℕ) → HasDone before now place → length now ≤ place
      → AllDo talk deed past before now
  all_done before now place h over =
      let all = ap length h.now_is in
      let few : length h.left ≤ 0 = omega (arith, all, length-append h.kept h.left, h.place_is, over) in
      let none = nothing h.left few in
      let was : before ≡ h.passed = h.split ∙ ap (λ ys. h.passed ++ ys) none ∙ append-nil h.passed in
      let is : now ≡ h.kept = h.now_is ∙ ap (λ ys. h.kept ++ ys) none ∙ append-nil h.kept in
      let P : List (Guest C) → Type 0 = λ xs. AllDo talk deed past xs now in
      let Q : List (Guest C) → Type 0 = λ xs. AllDo talk deed past h.passed xs in
      subst P (sym was) (subst Q (sym is) h.does)

  -- the one at the place lives
  pub lives_at : (before now : List (Guest C)) (place : ℕ) (d : Guest C) → HasDone before now place
      → place < length now → GuestLives talk own_only past (get_or now place d)
  lives_at before now place d h more =
      let a = among_after now h.kept h.left place d h.now_is h.place_is more in
      let P : List (Guest C) → Type 0 = λ xs. AreServed talk own_only past xs in
      (all_seam talk (GuestLives talk own_only past) a.kept a.rest (get_or now place d)
      (subst P a.now_is h.served).lives).1

  cancel : (kept xs ys : List (Guest C)) → kept ++ xs ≡ kept ++ ys → xs ≡ ys
  cancel [] xs ys h = h
  cancel (k ∷ kept) xs ys h = cancel kept xs ys (ap (drop 1) h)

  left_is : (left rest : List (Guest C)) (now kept : List (Guest C)) (g : Guest C) → now ≡ kept ++ left
      → now ≡ kept ++ g ∷ rest → left ≡ g ∷ rest
  left_is left rest now kept g one two = cancel kept left (g ∷ rest) (sym one ∙ two)

  pub one_stays : (before now : List (Guest C)) (place : ℕ) (d g' : Guest C) → HasDone before now place
      → place < length now → TakesTurn talk deed past (get_or now place d) true g'
      → HasDone before (set now place g') (place + 1)
  unfolding among_after
  one_stays before now place d g' h more turn =
      let g = get_or now place d in
      let a = among_after now h.kept h.left place d h.now_is h.place_is more in
      let is = set_among now place g g' a in
      let left = left_is h.left a.rest now h.kept g h.now_is a.now_is in
      let P : List (Guest C) → Type 0 = λ xs. AreServed talk own_only past xs in
      let lives = lives_turn talk own_only deed past g true g' (lives_at before now place d h more) turn in
      record {
        passed = h.passed ++ g ∷ [];
        kept = h.kept ++ g' ∷ [];
        left = a.rest;
        split = h.split ∙ ap (λ ys. h.passed ++ ys) left ∙ sym (append_assoc h.passed (g ∷ []) a.rest);
        now_is = is ∙ sym (append_assoc h.kept (g' ∷ []) a.rest);
        place_is = omega (arith, h.place_is, length-append h.kept (g' ∷ []));
        does = stays_last h.passed h.kept g g' h.does turn;
        served =
            subst P (sym is)
            (served_set talk own_only past a.kept a.rest g g' (subst P a.now_is h.served) lives
            (inl (turn_same talk deed past g true g' turn)));
      }

  pub one_goes : (before now : List (Guest C)) (place : ℕ) (d g' : Guest C) → HasDone before now place
      → place < length now → TakesTurn talk deed past (get_or now place d) false g'
      → HasDone before (take place (set now place g') ++ drop (place + 1) (set now place g')) place
  unfolding among_after
  one_goes before now place d g' h more turn =
      let g = get_or now place d in
      let a = among_after now h.kept h.left place d h.now_is h.place_is more in
      let is = gone_among now place g g' a in
      let left = left_is h.left a.rest now h.kept g h.now_is a.now_is in
      let P : List (Guest C) → Type 0 = λ xs. AreServed talk own_only past xs in
      record {
        passed = h.passed ++ g ∷ [];
        kept = h.kept;
        left = a.rest;
        split = h.split ∙ ap (λ ys. h.passed ++ ys) left ∙ sym (append_assoc h.passed (g ∷ []) a.rest);
        now_is = is;
        place_is = h.place_is;
        does = goes_last h.passed h.kept g g' h.does turn;
        served = subst P (sym is) (served_gone talk own_only past a.kept a.rest g (subst P a.now_is h.served));
      }

  -- it is let go: its connection has lived
  pub gone_lived : (before now : List (Guest C)) (place : ℕ) (d g' : Guest C) → HasDone before now place
      → place < length now → TakesTurn talk deed past (get_or now place d) false g' → GuestLives talk own_only past g'
  gone_lived before now place d g' h more turn =
      lives_turn talk own_only deed past (get_or now place d) false g' (lives_at before now place d h more) turn
