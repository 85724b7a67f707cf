use Rattle.std.proofs.Common.{ℕ, List, drop}
use Rattle.titles.specs.Fitting.{AreParts, Puts}
use Rattle.titles.proofs.Leading.{Leads}
use Rattle.titles.proofs.fitting.put_parts.Given as goal

-- what is left makes the whole; and some bytes were added
pub record Goes (parts rest before now : List ℕ) : Type 0 where
  pub leads : Leads (AreParts rest) (AreParts parts) before now
  pub some : Puts (λ bytes. Unit {0}) before now

abbrev pub invariant-loop-part : goal.invariant-loop-part
invariant-loop-part l = Goes l.parts (drop l.part-index l.parts) l.fn.text.items l.text.items
