-- All who ask, one after another.
use Rattle.std.proofs.Common.{◌≡◌, ◌≤◌, ◌<◌, ◌+◌, ◌⊎◌, ℕ, Bool, true, false, cond, not, List, [], ◌∷◌, ◌++◌}
use Rattle.std.proofs.Common.{length}
use Rattle.std.proofs.Common.{refl, ap, ◌∙◌, inl, inr, arith, length-append}
use Rattle.std.specs.List.{AllByRecursion}
use Rattle.std.proofs.lemmas.List.Sums.{sum_by-cons, sum_by-append}
use Rattle.page.specs.declared.clients.client.Phase.{Phase}
use Rattle.page.specs.declared.clients.client.Phase.TheVariants.{Asking, Live, Closing}
use Rattle.page.specs.declared.clients.request.Route.{Route}
use Rattle.page.specs.declared.clients.request.Route.TheVariants.{Page, Events, State, History, Metrics}
use Rattle.page.specs.declared.clients.request.Route.TheVariants.{Health, NotFound, OtherMethod, Foreign}
use Rattle.page.specs.declared.guests.connection.Passed.{Passed}
use Rattle.page.specs.declared.guests.connection.Passed.TheVariants.{Bytes, NotNow, Gone}
use Rattle.page.specs.declared.guests.guest.Guest.{Guest}
use Rattle.page.specs.declared.guests.guest.Deed.{Deed}
use Rattle.page.specs.declared.guests.guest.Deed.TheVariants.{CatchUp, Deliver, Tick, End}
use Rattle.page.specs.Events.{Event, Past, with_line}
use Rattle.page.specs.Sending.{Standing}
use Rattle.page.specs.Answers.{Source, opens}
use Rattle.page.specs.Hearing.{Hears}
use Rattle.page.specs.ClientView.{standing_of, came_of}
use Rattle.page.specs.Talk.{Talk}
use Rattle.page.specs.Visits.{GuestLives, HearsRead, HearsOnce, SendsOn, Does}
use Rattle.page.specs.Visits.{TakesTurn, AreServed, gets_events, live_in}
use Rattle.page.proofs.Visiting.{lives_line}

-- ---- how many get events
abbrev pub one_of : Phase → ℕ
one_of phase = cond (gets_events phase) 1 0

pub one_most : (p : Phase) → one_of p ≤ 1
one_most Asking = omega arith
one_most Live = omega arith
one_most Closing = omega arith

one_as : (p q : Phase) → q ≡ p → one_of q ≤ one_of p
one_as p q is =
    let same : one_of q ≡ one_of p = ap one_of is in
    omega (arith, same)

one_closing : (p q : Phase) → q ≡ Closing → one_of q ≤ one_of p
one_closing p q is =
    let none : one_of q ≡ 0 = ap one_of is in
    omega (arith, none)

-- ---- who gets events from now on
not_true : (b : Bool) → not b ≡ true → b ≡ false
not_true true h = cc
not_true false h = refl

opens_free : (source : Source) (route : Route) → opens source route ≡ true → source.is_full ≡ false
opens_free source Events h = not_true source.is_full h
opens_free source Page h = cc
opens_free source State h = cc
opens_free source History h = cc
opens_free source Metrics h = cc
opens_free source Health h = cc
opens_free source NotFound h = cc
opens_free source OtherMethod h = cc
opens_free source Foreign h = cc

hears_free : (source : Source) (own_only : Bool) (came : List ℕ) (x x' : Standing) → Hears source own_only came x x'
    → (one_of x'.phase ≤ one_of x.phase) ⊎ (source.is_full ≡ false)
hears_free source own_only came x x' (inl (inl awaited)) =
    inl (one_as x.phase x'.phase (ap (λ (s : Standing). s.phase) awaited.same))
hears_free source own_only came x x' (inl (inr refused)) = inl (one_closing x.phase x'.phase refused.phase)
hears_free source own_only came x x' (inr (inl answered)) = elim answered.replies.phase [
  | inl live ↦ inr (opens_free source _ (answered.replies.opened live).0)
  | inr closing ↦ inl (one_closing x.phase x'.phase closing)
]
hears_free source own_only came x x' (inr (inr closes)) =
    inl (one_closing x.phase x'.phase (ap (λ (s : Standing). s.phase) closes))

asking_or_not : (p : Phase) → (p ≡ Asking) ⊎ (p ≡ Asking → ⊥)
asking_or_not Asking = inl refl
asking_or_not Live = inr (λ e. cc e)
asking_or_not Closing = inr (λ e. cc e)

module _ {C : Type 0} (talk : C → Talk) where
  abbrev pub weight : Guest C → ℕ
  weight g = one_of (standing_of g.client).phase

  weight_as : (g g' : Guest C) → standing_of g'.client ≡ standing_of g.client → weight g' ≤ weight g
  weight_as g g' is = one_as (standing_of g.client).phase (standing_of g'.client).phase
      (ap (λ (s : Standing). s.phase) is)

  read_free : (source : Source) (own_only : Bool) (buffer : List ℕ) (passed : Passed) (g : Guest C) (keeps : Bool)
      (g' : Guest C) → HearsRead talk source own_only buffer passed g keeps g'
      → (weight g' ≤ weight g) ⊎ (source.is_full ≡ false)
  read_free source own_only buffer (Bytes count) g keeps g' (inl (none, kept, gives, same)) =
      inl (weight_as g g' (ap (λ (h : Guest C). standing_of h.client) same))
  read_free source own_only buffer (Bytes count) g keeps g' (inr (some, kept, more)) =
      elim (asking_or_not (standing_of g.client).phase) [
        | inl asks ↦ hears_free source own_only _ (standing_of g.client) (standing_of g'.client) (more.hears asks)
        | inr other ↦ inl (weight_as g g' (more.kept other))
      ]
  read_free source own_only buffer NotNow g keeps g' read =
      inl (weight_as g g' (ap (λ (h : Guest C). standing_of h.client) read.1.1))
  read_free source own_only buffer Gone g keeps g' read =
      inl (weight_as g g' (ap (λ (h : Guest C). standing_of h.client) read.1.1))

  pub heard_free : (reads : C → List ℕ → Passed → C → Type 0) (source : Source) (own_only keeps : Bool) (g g' : Guest C)
      → HearsOnce talk reads source own_only g keeps g' → (weight g' ≤ weight g) ⊎ (source.is_full ≡ false)
  heard_free reads source own_only keeps g g' (buffer, passed, made, read) =
      read_free source own_only buffer passed g keeps g' read

  pub sent_same : (past : Past) (events : List Event) (written : List ℕ) (g g' : Guest C)
      → SendsOn talk past events written g g' → weight g' ≤ weight g
  sent_same past events written g g' s =
      one_as (standing_of g.client).phase (standing_of g'.client).phase s.sent.phase

  does_same : (deed : Deed) (past : Past) (g : Guest C) (keeps : Bool) (g' : Guest C)
      → Does talk deed past g keeps g' → weight g' ≤ weight g
  does_same CatchUp past g keeps g' (events, sends, same, all) = sent_same past events [] g g' sends
  does_same Deliver past g keeps g' (inl (none, kept, same)) =
      weight_as g g' (ap (λ (h : Guest C). standing_of h.client) same)
  does_same Deliver past g keeps g' (inr now) = sent_same past now.events now.written g g' now.sends
  does_same Tick past g keeps g' t = elim t.says [
    | inl is ↦ weight_as g g' is
    | inr said ↦
        one_as (standing_of g.client).phase (standing_of g'.client).phase (ap (λ (s : Standing). s.phase) said.2)
  ]
  does_same End past g keeps g' (ends, came, kept, same) =
      one_closing (standing_of g.client).phase (standing_of g'.client).phase ends.phase

  pub turn_same : (deed : Deed) (past : Past) (g : Guest C) (stays : Bool) (g' : Guest C)
      → TakesTurn talk deed past g stays g' → weight g' ≤ weight g
  turn_same deed past g true g' does = does_same deed past g true g' does
  turn_same deed past g false g' (keeps, does, may) = does_same deed past g keeps g' does

  -- ---- all of a list
  live_seam : (kept rest : List (Guest C)) (g : Guest C)
      → live_in (kept ++ g ∷ rest) ≡ live_in kept + (weight g + live_in rest)
  live_seam kept rest g =
      sum_by-append weight kept (g ∷ rest) ∙ ap (λ n. live_in kept + n) (sum_by-cons weight g rest)

  pub all_seam : (P : Guest C → Type 0) (kept rest : List (Guest C)) (g : Guest C) → AllByRecursion P (kept ++ g ∷ rest)
      → AllByRecursion P kept × P g × AllByRecursion P rest
  all_seam P [] rest g h = (tt, h.0, h.1)
  all_seam P (k ∷ kept) rest g h =
      let more = all_seam P kept rest g h.1 in
      ((h.0, more.0), more.1, more.2)

  pub all_join : (P : Guest C → Type 0) (kept rest : List (Guest C)) → AllByRecursion P kept → AllByRecursion P rest
      → AllByRecursion P (kept ++ rest)
  all_join P [] rest h k = k
  all_join P (x ∷ kept) rest h k = (h.0, all_join P kept rest h.1 k)

  all_map : (P Q : Guest C → Type 0) → ((g : Guest C) → P g → Q g) → (gs : List (Guest C)) → AllByRecursion P gs
      → AllByRecursion Q gs
  all_map P Q f [] h = tt
  all_map P Q f (g ∷ gs) h = (f g h.0, all_map P Q f gs h.1)

  -- a line became an event
  pub served_line : (own_only : Bool) (past : Past) (line : List ℕ) (guests : List (Guest C))
      → AreServed talk own_only past guests
      → AreServed talk own_only (with_line past line) guests
  served_line own_only past line guests h = record {
    lives = all_map (GuestLives talk own_only past) (GuestLives talk own_only (with_line past line))
        (λ g l. lives_line own_only past line (talk g.connection) (standing_of g.client) (came_of g.client) l) guests
        h.lives;
    few = h.few;
    live_few = h.live_few;
  }

  pub served_none : (own_only : Bool) (past : Past) → AreServed talk own_only past []
  served_none own_only past = record { lives = tt; few = omega arith; live_few = omega arith }

  -- one more, behind the others
  pub served_more : (own_only : Bool) (past : Past) (guests : List (Guest C)) (g : Guest C)
      → AreServed talk own_only past guests
      → length guests < 128 → GuestLives talk own_only past g → (standing_of g.client).phase ≡ Asking
      → AreServed talk own_only past (guests ++ g ∷ [])
  served_more own_only past guests g h room lives asks =
      let none : weight g ≡ 0 = ap one_of asks in
      let live : live_in (guests ++ g ∷ []) ≡ live_in guests + (weight g + live_in {C = C} []) =
      live_seam guests [] g in
      let empty : live_in {C = C} [] ≡ 0 = refl in
      record {
        lives = all_join (GuestLives talk own_only past) guests (g ∷ []) h.lives (lives, tt);
        few = omega (arith, room, length-append guests (g ∷ []));
        live_few = omega (arith, live, none, empty, h.live_few);
      }

  -- one who stays, and one who is let go
  pub served_set : (own_only : Bool) (past : Past) (kept rest : List (Guest C)) (g g' : Guest C)
      → AreServed talk own_only past (kept ++ g ∷ rest) → GuestLives talk own_only past g'
      → ((weight g' ≤ weight g) ⊎ (live_in (kept ++ g ∷ rest) < 64)) → AreServed talk own_only past (kept ++ g' ∷ rest)
  served_set own_only past kept rest g g' h lives fewer =
      let parts = all_seam (GuestLives talk own_only past) kept rest g h.lives in
      let now : live_in (kept ++ g ∷ rest) ≡ live_in kept + (weight g + live_in rest) = live_seam kept rest g in
      let then : live_in (kept ++ g' ∷ rest) ≡ live_in kept + (weight g' + live_in rest) = live_seam kept rest g' in
      let most : weight g' ≤ 1 = one_most (standing_of g'.client).phase in
      record {
        lives = all_join (GuestLives talk own_only past) kept (g' ∷ rest) parts.0 (lives, parts.2);
        few = omega (arith, h.few, length-append kept (g ∷ rest), length-append kept (g' ∷ rest));
        live_few = elim fewer [
          | inl less ↦ omega (arith, now, then, less, h.live_few)
          | inr free ↦ omega (arith, now, then, most, free)
        ];
      }

  pub served_without : (own_only : Bool) (past : Past) (kept rest : List (Guest C)) (g : Guest C)
      → AllByRecursion (GuestLives talk own_only past) (kept ++ g ∷ rest) → length (kept ++ g ∷ rest) ≤ 128
      → live_in (kept ++ g ∷ rest) ≤ 64 + weight g → AreServed talk own_only past (kept ++ rest)
  served_without own_only past kept rest g lives few live_few =
      let parts = all_seam (GuestLives talk own_only past) kept rest g lives in
      let now : live_in (kept ++ g ∷ rest) ≡ live_in kept + (weight g + live_in rest) = live_seam kept rest g in
      let then : live_in (kept ++ rest) ≡ live_in kept + live_in rest = sum_by-append weight kept rest in
      record {
        lives = all_join (GuestLives talk own_only past) kept rest parts.0 parts.2;
        few = omega (arith, few, length-append kept (g ∷ rest), length-append kept rest);
        live_few = omega (arith, now, then, live_few);
      }

  pub served_gone : (own_only : Bool) (past : Past) (kept rest : List (Guest C)) (g : Guest C)
      → AreServed talk own_only past (kept ++ g ∷ rest)
      → AreServed talk own_only past (kept ++ rest)
  served_gone own_only past kept rest g h =
      let few = h.live_few in
      let less : live_in (kept ++ g ∷ rest) ≤ 64 + weight g = omega (arith, few) in
      served_without own_only past kept rest g h.lives h.few less

  -- the same lists, with one of them heard
  pub lives_set : (own_only : Bool) (past : Past) (kept rest : List (Guest C)) (g g' : Guest C)
      → AllByRecursion (GuestLives talk own_only past) (kept ++ g ∷ rest) → GuestLives talk own_only past g'
      → AllByRecursion (GuestLives talk own_only past) (kept ++ g' ∷ rest)
  lives_set own_only past kept rest g g' all lives =
      let parts = all_seam (GuestLives talk own_only past) kept rest g all in
      all_join (GuestLives talk own_only past) kept (g' ∷ rest) parts.0 (lives, parts.2)

  pub live_set : (kept rest : List (Guest C)) (g g' : Guest C)
      → live_in (kept ++ g' ∷ rest) + weight g ≡ live_in (kept ++ g ∷ rest) + weight g'
  live_set kept rest g g' =
      let now : live_in (kept ++ g ∷ rest) ≡ live_in kept + (weight g + live_in rest) = live_seam kept rest g in
      let then : live_in (kept ++ g' ∷ rest) ≡ live_in kept + (weight g' + live_in rest) = live_seam kept rest g' in
      omega (arith, now, then)
