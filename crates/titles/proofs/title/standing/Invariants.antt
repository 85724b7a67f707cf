use Rattle.std.proofs.Common.{◌≡◌, ◌+◌, ℕ, List, length, drop}
use Rattle.titles.proofs.Leading.{Leads}
use Rattle.titles.proofs.Standing.{Are}
use Rattle.titles.proofs.title.standing.Given as goal

-- what is left makes the whole behind the prefix; and the text is as long as what was taken
pub record Goes (prefix characters text : List ℕ) (place : ℕ) : Type 0 where
  pub leads : Leads (Are (drop place characters)) (Are characters) prefix text
  pub long : length text ≡ length prefix + place

abbrev pub invariant-loop-place : goal.invariant-loop-place
invariant-loop-place l = Goes l.prefix l.characters l.text.items l.place
