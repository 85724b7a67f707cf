-- What waits for those who ask is no less where a line became no event.
use Rattle.std.proofs.Common.{◌≡◌, ℕ, List, Option, Some, sym, subst}
use Rattle.page.specs.declared.guests.guest.Guest.{Guest}
use Rattle.page.specs.declared.intake.taking.Intake.{Intake}
use Rattle.page.specs.declared.intake.taking.Taken.{Taken}
use Rattle.page.specs.declared.intake.taking.Taken.TheVariants.{Event}
use Rattle.page.specs.Events.{Past}
use Rattle.page.specs.Intake.{board_of}
use Rattle.page.specs.Input.{TakesNext, TakesLast}
use Rattle.page.specs.Visits.{AreCaughtUp}
use Rattle.page.proofs.Public.{kept_in}

module _ {C : Type 0} (guests : List (Guest C)) (before behind : Intake) (told : Option Taken) (taken : Taken) where
  as_before : (board_of behind).past ≡ (board_of before).past → AreCaughtUp (board_of before).past guests
      → AreCaughtUp (board_of behind).past guests
  as_before is caught = subst (λ (p : Past). AreCaughtUp p guests) (sym is) caught

  pub caught_next : (came : ℕ) → told ≡ Some taken → TakesNext came before behind told
      → AreCaughtUp (board_of before).past guests
      → (taken ≡ Event → ⊥) → AreCaughtUp (board_of behind).past guests
  caught_next came is takes caught none =
      let (cut, some, cuts, takes_in) = subst (λ (t : Option Taken). TakesNext came before behind t) is takes in
      as_before (kept_in _ came (board_of before) (board_of behind) taken takes_in none) caught

  pub caught_last : (came : ℕ) → told ≡ Some taken → TakesLast came before behind told
      → AreCaughtUp (board_of before).past guests
      → (taken ≡ Event → ⊥) → AreCaughtUp (board_of behind).past guests
  caught_last came is takes caught none =
      let (cut, some, cuts, takes_in) = subst (λ (t : Option Taken). TakesLast came before behind t) is takes in
      as_before (kept_in _ came (board_of before) (board_of behind) taken takes_in none) caught
