-- A group as those get it who listen to the air (profile).
use Rattle.std.specs.Prelude.{ℕ, List, [], ◌∷◌, ◌++◌}
use Rattle.rds_groups.specs.declared.group.Group.{Group}
use Rattle.rds_groups.specs.Lines.{line}
use Rattle.rds_groups.specs.Text.{bit_line}
use Rattle.air_edges.specs.declared.form.AirForm.{AirForm}
use Rattle.air_edges.specs.declared.form.AirForm.TheVariants.{Lines, Bits}

-- Its line of words, or that of its bits, and a line feed.
abbrev pub air_bytes : AirForm → Group → List ℕ
air_bytes Lines group = line group ++ 10 ∷ []
air_bytes Bits group = bit_line group ++ 10 ∷ []
