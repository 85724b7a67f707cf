-- What is said of a line, each once a cause (profile).
use Rattle.std.specs.Prelude.{◌≡◌, ◌≢◌, true, false, List, [], ◌∷◌, Some, None}
use Rattle.live_edges.specs.declared.said.Notice.{Notice}
use Rattle.live_edges.specs.declared.said.Notice.TheVariants.{There, Lost, Away}
pub use Rattle.live_edges.specs.declared.said.Said.{Said}

abbrev pub nothing_said : Said
nothing_said = record { there = false; lost = false; away = None }

-- It is said from now on.
abbrev pub noted : Said → Notice → Said
noted s There = record s { there = true }
noted s Lost = record s { lost = true }
noted s (Away why) = record s { away = Some why }

-- It was not said since the last reply; or of a connection that is not to be had, other words were said last.
abbrev pub IsNews : Said → Notice → Type 0
IsNews s There = s.there ≡ false
IsNews s Lost = s.lost ≡ false
IsNews s (Away why) = s.away ≢ Some why

abbrev pub noted_all : Said → List Notice → Said
noted_all s [] = s
noted_all s (n ∷ ns) = noted_all (noted s n) ns

-- The words of a notice: those of one that tells why there is no connection change with the reason.
abbrev pub SameWords : Notice → Notice → Type 0
SameWords (Away why) (Away other) = other ≡ why
SameWords n m = Unit {0}

abbrev pub AllSameWords : Notice → List Notice → Type 0
AllSameWords n [] = Unit {0}
AllSameWords n (m ∷ ms) = SameWords n m × AllSameWords n ms
