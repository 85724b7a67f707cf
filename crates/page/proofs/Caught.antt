-- What each is owed waits, whatever is done.
use Rattle.std.proofs.Common.{◌≡◌, ◌⊎◌, ◌+◌, ℕ, zero, suc, Bool, true, false, List, [], ◌∷◌, ◌++◌, length, take, drop}
use Rattle.std.proofs.Common.{sym, ap, subst, ◌∙◌, inl, inr, arith, refl}
use Rattle.std.proofs.Common.{if◌then◌else◌}
use Rattle.page.specs.declared.clients.client.Phase.TheVariants.{Closing}
use Rattle.page.specs.declared.guests.connection.Passed.{Passed}
use Rattle.page.specs.declared.guests.guest.Guest.{Guest}
use Rattle.page.specs.declared.guests.guest.Deed.{Deed}
use Rattle.page.specs.declared.guests.guest.Deed.TheVariants.{CatchUp, Deliver, Tick, End}
use Rattle.page.specs.declared.guests.room.Room.{Room}
use Rattle.page.specs.declared.state.silence.Moment.{Moment}
use Rattle.page.specs.Events.{Past}
use Rattle.page.specs.State.{State}
use Rattle.page.specs.Answers.{Source}
use Rattle.page.specs.ClientView.{standing_of}
use Rattle.page.specs.Talk.{Talk}
use Rattle.page.specs.Sending.{Standing, SaysAlive, owed}
use Rattle.page.specs.Delivering.{IsCaughtUp}
use Rattle.page.specs.Visits.{HearsThen, Does, AllDo, AreCaughtUp}
use Rattle.page.specs.EventPlaces.{GivesEvents, HearsOne}
use Rattle.page.specs.Places.{HasPlace, ComesIn}
use Rattle.page.proofs.Visitors.{all_seam, all_join}

caught_alive : (past : Past) (x x' : Standing) → SaysAlive x x' → IsCaughtUp past x → IsCaughtUp past x'
caught_alive past x x' (inl is) caught =
    let P : Standing → Type 0 = λ s. IsCaughtUp past s in
    subst P (sym is) caught
caught_alive past x x' (inr (live, none, is)) caught =
    λ _. elim (caught live) [
      | inl all ↦ inl (ap (λ (s : Standing). owed past s) is ∙ all)
      | inr full ↦
          let nothing : length x.output ≡ 0 = ap length none in
          absurd (omega (arith, nothing, full))
    ]

caught_closing : (past : Past) (x : Standing) → x.phase ≡ Closing → IsCaughtUp past x
caught_closing past x closing = λ live. cc (live, closing)

module _ {C : Type 0} (talk : C → Talk) (past : Past) where
  abbrev Caught : Guest C → Type 0
  Caught g = IsCaughtUp past (standing_of g.client)

  caught_does : (deed : Deed) (g : Guest C) (keeps : Bool) (g' : Guest C) → Does talk deed past g keeps g'
      → keeps ≡ true → ((deed ≡ CatchUp) ⊎ Caught g) → Caught g'
  caught_does CatchUp g keeps g' (events, sends, same, all) stays before = all stays
  caught_does Deliver g keeps g' (inl (none, kept, same)) stays (inl other) = cc other
  caught_does Deliver g keeps g' (inl (none, kept, same)) stays (inr caught) = subst Caught (sym same) caught
  caught_does Deliver g keeps g' (inr now) stays before = (now.served stays).0
  caught_does Tick g keeps g' ticks stays (inl other) = cc other
  caught_does Tick g keeps g' ticks stays (inr caught) =
      caught_alive past (standing_of g.client) (standing_of g'.client) ticks.says caught
  caught_does End g keeps g' (ends, came, kept, same) stays before =
      caught_closing past (standing_of g'.client) ends.phase

  first : (deed : Deed) (g : Guest C) (gs : List (Guest C)) → ((deed ≡ CatchUp) ⊎ AreCaughtUp past (g ∷ gs))
      → (deed ≡ CatchUp) ⊎ Caught g
  first deed g gs (inl is) = inl is
  first deed g gs (inr all) = inr all.0

  rest : (deed : Deed) (g : Guest C) (gs : List (Guest C)) → ((deed ≡ CatchUp) ⊎ AreCaughtUp past (g ∷ gs))
      → (deed ≡ CatchUp) ⊎ AreCaughtUp past gs
  rest deed g gs (inl is) = inl is
  rest deed g gs (inr all) = inr all.1

  -- all do what is asked of them
  pub caught_all : (deed : Deed) (gs gs' : List (Guest C)) → AllDo talk deed past gs gs'
      → ((deed ≡ CatchUp) ⊎ AreCaughtUp past gs) → AreCaughtUp past gs'
  caught_all deed [] gs' is before =
      let P : List (Guest C) → Type 0 = λ xs. AreCaughtUp past xs in
      subst P (sym is) tt
  caught_all deed (g ∷ gs) gs' (g', inl (does, (others, is, more))) before =
      let P : List (Guest C) → Type 0 = λ xs. AreCaughtUp past xs in
      subst P (sym is) (
        caught_does deed g true g' does refl (first deed g gs before),
        caught_all deed gs others more (rest deed g gs before),
      )
  caught_all deed (g ∷ gs) gs' (g', inr (gone, more)) before = caught_all deed gs gs' more (rest deed g gs before)

  caught_take : (n : ℕ) (gs : List (Guest C)) → AreCaughtUp past gs → AreCaughtUp past (take n gs)
  caught_take zero gs all = tt
  caught_take (suc n) [] all = tt
  caught_take (suc n) (g ∷ gs) all = (all.0, caught_take n gs all.1)

  caught_drop : (n : ℕ) (gs : List (Guest C)) → AreCaughtUp past gs → AreCaughtUp past (drop n gs)
  caught_drop zero gs all = all
  caught_drop (suc n) [] all = tt
  caught_drop (suc n) (g ∷ gs) all = caught_drop n gs all.1

  caught_gives : (room : Room) (heard gs : List (Guest C)) → GivesEvents room heard gs → AreCaughtUp past heard
      → AreCaughtUp past gs
  caught_gives room heard gs (inl (few, is)) all =
      let P : List (Guest C) → Type 0 = λ xs. AreCaughtUp past xs in
      subst P (sym is) all
  caught_gives room heard gs (inr (many, place, given, is)) all =
      let P : List (Guest C) → Type 0 = λ xs. AreCaughtUp past xs in
      subst P (sym is)
      (all_join talk Caught (take place heard) (drop (place + 1) heard) (caught_take place heard all)
      (caught_drop (place + 1) heard all))

  caught_then : (reads : C → List ℕ → Passed → C → Type 0) (source : Source) (own_only stays : Bool)
      (before behind : List (Guest C)) (one one' : Guest C) → source.past ≡ past
      → HearsThen talk reads source own_only one stays one' → AreCaughtUp past before → AreCaughtUp past behind
      → AreCaughtUp past (if stays then before ++ one' ∷ behind else before ++ behind)
  caught_then reads source own_only true before behind one one' is (heard, hears, sends) all more =
      let P : Past → Type 0 = λ p. IsCaughtUp p (standing_of one'.client) in
      all_join talk Caught before (one' ∷ behind) all (subst P is (sends.served refl).0, more)
  caught_then reads source own_only false before behind one one' is hears all more =
      all_join talk Caught before behind all more

  -- one is heard
  pub caught_heard : (origin numbered : C → ℕ) (reads : C → List ℕ → Passed → C → Type 0) (number : ℕ) (shown : State)
      (moment : Moment) (own_only : Bool) (gs gs' : List (Guest C))
      → HearsOne talk origin numbered reads number shown past moment own_only gs gs' → AreCaughtUp past gs
      → AreCaughtUp past gs'
  caught_heard origin numbered reads number shown moment own_only gs gs' h all =
      let P : List (Guest C) → Type 0 = λ xs. AreCaughtUp past xs in
      let parts = all_seam talk Caught h.before h.behind h.one (subst P h.among all) in
      caught_gives h.room h.heard gs' h.gives
      (subst P (sym h.heard_are)
      (caught_then reads _ own_only h.stays h.before h.behind h.one h.one' refl h.hears parts.0 parts.2))

  caught_place : (origin : C → ℕ) (from : ℕ) (gs : List (Guest C)) (has : Bool) (others : List (Guest C))
      → HasPlace origin from gs has others → AreCaughtUp past gs → AreCaughtUp past others
  caught_place origin from gs true others (inl (few, is)) all =
      let P : List (Guest C) → Type 0 = λ xs. AreCaughtUp past xs in
      subst P (sym is) all
  caught_place origin from gs true others (inr (many, gives)) all =
      let P : List (Guest C) → Type 0 = λ xs. AreCaughtUp past xs in
      let parts = all_seam talk Caught gives.before gives.behind gives.one (subst P gives.among all) in
      subst P (sym gives.others_are) (all_join talk Caught gives.before gives.behind parts.0 parts.2)
  caught_place origin from gs false others (many, none, is) all =
      let P : List (Guest C) → Type 0 = λ xs. AreCaughtUp past xs in
      subst P (sym is) all

  -- one more comes
  pub caught_comes : (origin : C → ℕ) (connection : C) (gs gs' : List (Guest C))
      → ComesIn origin connection gs gs' → AreCaughtUp past gs → AreCaughtUp past gs'
  caught_comes origin connection gs gs' h all =
      let P : List (Guest C) → Type 0 = λ xs. AreCaughtUp past xs in
      let stay = caught_place origin (origin connection) gs h.has h.others h.place all in
      elim h.stands [
        | inl is ↦ subst P (sym is) stay
        | inr (has, g, fresh, is) ↦
            subst P (sym is)
            (all_join talk Caught h.others (g ∷ []) stay ((λ live. cc (live, fresh.is_new.0)), tt))
      ]
