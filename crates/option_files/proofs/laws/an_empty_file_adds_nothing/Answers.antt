use Rattle.std.proofs.Common.{refl}
use Rattle.toml.proofs.OnLiterals.{toml_on_literals}
use Rattle.option_files.proofs.laws.an_empty_file_adds_nothing.Goals as goal

pub returns-clause-empty : goal.returns-clause-empty
unfolding toml_on_literals
returns-clause-empty c = refl
