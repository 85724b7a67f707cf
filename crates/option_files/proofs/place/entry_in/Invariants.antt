use Rattle.std.proofs.Common.{ℕ, ◌≤◌, ◌<◌, take}
use Rattle.option_files.specs.Places.{BeginsLine, Lacks}
use Rattle.option_files.proofs.place.entry_in.Given as goal

-- the lines before are TOML without the name, and no longer beginning so far is
abbrev pub invariant-loop-index : goal.invariant-loop-index
invariant-loop-index l = (l.from ≤ l.index) × BeginsLine l.text l.from × Lacks l.name (take l.from l.text)
    × ((later : ℕ) → l.from < later → later ≤ l.index → BeginsLine l.text later → Lacks l.name (take later l.text) → ⊥)
