use Rattle.std.proofs.Common.{drop}
use Rattle.titles.specs.Fitting.{AreFitted}
use Rattle.titles.proofs.Leading.{Leads}
use Rattle.titles.proofs.fitting.put_all.Given as goal

-- what is left makes the whole
abbrev pub invariant-loop-character : goal.invariant-loop-character
invariant-loop-character l =
    Leads (AreFitted (drop l.character-index l.characters)) (AreFitted l.characters) l.fn.text.items l.text.items
