-- A line that is taken becomes an event for all who ask, or none.
use Rattle.std.proofs.Common.{◌≡◌, ◌⊎◌, ℕ, List, [], Option, Some, None, refl, sym, ap, subst, inl, inr}
use Rattle.page.specs.declared.state.page.Took.{Took}
use Rattle.page.specs.declared.state.page.Took.TheVariants.{Ours}
use Rattle.page.specs.declared.state.page.Took.TheVariants.{Other as OtherLine}
use Rattle.page.specs.declared.intake.taking.Taken.{Taken}
use Rattle.page.specs.declared.intake.taking.Taken.TheVariants.{Event, Unsent, Other}
use Rattle.page.specs.declared.intake.taking.Intake.{Intake}
use Rattle.page.specs.declared.guests.guest.Guest.{Guest}
use Rattle.page.specs.declared.guests.all.Guests.{Guests}
use Rattle.page.specs.Events.{Past, with_line}
use Rattle.page.specs.Intake.{Board, board_of, Adds, Comes, TakesIn}
use Rattle.page.specs.Input.{TakesNext, TakesLast}
use Rattle.page.specs.Talk.{Talk}
use Rattle.page.specs.Visits.{AllServed, AreServed, guests_of}
use Rattle.page.proofs.Visitors.{served_line, served_none}

-- What is kept is as it was, or has one more event.
abbrev Grows : (past past' : Past) → Type 0
Grows past past' = (past' ≡ past) ⊎ ((line : List ℕ) × (past' ≡ with_line past line))

added : (text : List ℕ) (past past' : Past) (taken : Taken) → Adds text past past' taken → Grows past past'
added text past past' Event adds = inr (text, adds.0)
added text past past' Unsent adds = inl adds.0
added text past past' (Other number) adds = absurd adds

came : (took : Took) (before behind : Board) (taken : Taken) → Comes took before behind taken
    → Grows before.past behind.past
came (Ours text) before behind taken comes = added _ before.past behind.past taken comes.0
came OtherLine before behind taken comes = inl comes.1

taken_in : (line : List ℕ) (time : ℕ) (before behind : Board) (taken : Taken) → TakesIn line time before behind taken
    → Grows before.past behind.past
taken_in line time before behind taken (took, takes, comes, count) = came took before behind taken comes

next : (time : ℕ) (before behind : Intake) (taken : Option Taken) → TakesNext time before behind taken
    → Grows (board_of before).past (board_of behind).past
next time before behind None takes = inl (ap (λ (b : Board). b.past) takes.1)
next time before behind (Some taken) (cut, some, cuts, takes) =
    taken_in _ time (board_of before) (board_of behind) taken takes

last : (time : ℕ) (before behind : Intake) (taken : Option Taken) → TakesLast time before behind taken
    → Grows (board_of before).past (board_of behind).past
last time before behind None takes = inl (ap (λ (b : Board). b.past) takes.1)
last time before behind (Some taken) (cut, some, cuts, takes) =
    taken_in _ time (board_of before) (board_of behind) taken takes

-- No line became an event, and what is kept is as it was.
not_added : (text : List ℕ) (past past' : Past) (taken : Taken) → Adds text past past' taken → (taken ≡ Event → ⊥)
    → past' ≡ past
not_added text past past' Event adds none = absurd (none refl)
not_added text past past' Unsent adds none = adds.0
not_added text past past' (Other number) adds none = absurd adds

no_event : (took : Took) (before behind : Board) (taken : Taken) → Comes took before behind taken
    → (taken ≡ Event → ⊥) → behind.past ≡ before.past
no_event (Ours text) before behind taken comes none = not_added _ before.past behind.past taken comes.0 none
no_event OtherLine before behind taken comes none = comes.1

pub kept_in : (line : List ℕ) (time : ℕ) (before behind : Board) (taken : Taken)
    → TakesIn line time before behind taken → (taken ≡ Event → ⊥) → behind.past ≡ before.past
kept_in line time before behind taken (took, takes, comes, count) none = no_event took before behind taken comes none

module _ {C : Type 0} (talk : C → Talk) where
  pub served_as : (past past' : Past) (guests : Guests C) → past' ≡ past → AllServed talk past guests
      → AllServed talk past' guests
  served_as past past' guests is served =
      let P : Past → Type 0 = λ p. AllServed talk p guests in
      subst P (sym is) served

  served_grown : (past past' : Past) (guests : Guests C) → Grows past past' → AllServed talk past guests
      → AllServed talk past' guests
  served_grown past past' guests (inl is) served = served_as past past' guests is served
  served_grown past past' guests (inr (line, is)) served =
      served_as (with_line past line) past' guests is
      (served_line talk guests.own_only past line (guests_of guests) served)

  pub served_next : (time : ℕ) (before behind : Intake) (taken : Option Taken) (guests : Guests C)
      → TakesNext time before behind taken → AllServed talk (board_of before).past guests
      → AllServed talk (board_of behind).past guests
  served_next time before behind taken guests takes served =
      served_grown (board_of before).past (board_of behind).past guests (next time before behind taken takes) served

  pub served_last : (time : ℕ) (before behind : Intake) (taken : Option Taken) (guests : Guests C)
      → TakesLast time before behind taken → AllServed talk (board_of before).past guests
      → AllServed talk (board_of behind).past guests
  served_last time before behind taken guests takes served =
      served_grown (board_of before).past (board_of behind).past guests (last time before behind taken takes) served

  pub served_nobody : (past : Past) (guests : Guests C) → guests_of guests ≡ [] → AllServed talk past guests
  served_nobody past guests none =
      let P : List (Guest C) → Type 0 = λ gs. AreServed talk guests.own_only past gs in
      subst P (sym none) (served_none talk guests.own_only past)
