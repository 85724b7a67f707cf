-- The numbers and names of a line's refusals. Source: profile.
use Rattle.std.specs.Prelude.{ℕ, List, codes}
use Rattle.uecp_link.specs.declared.refusal.LineRefusal.{LineRefusal}
use Rattle.uecp_link.specs.declared.refusal.LineRefusal.TheVariants.{Busy, NotSent, TooLate, HoldsAFrame, OutOfMemory}

-- Their numbers, 1 to 5, in the order in which the reasons are looked for.
abbrev pub number_of : LineRefusal → ℕ
number_of Busy = 1
number_of NotSent = 2
number_of TooLate = 3
number_of HoldsAFrame = 4
number_of OutOfMemory = 5

-- Their names, as a program writes them.
abbrev pub name_of : LineRefusal → List ℕ
name_of Busy = codes "Busy"
name_of NotSent = codes "NotSent"
name_of TooLate = codes "TooLate"
name_of HoldsAFrame = codes "HoldsAFrame"
name_of OutOfMemory = codes "OutOfMemory"
