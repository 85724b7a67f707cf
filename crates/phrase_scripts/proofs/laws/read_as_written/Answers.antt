use Rattle.phrase_scripts.proofs.ReadAsWritten.{read_as_written}
use Rattle.phrase_scripts.proofs.laws.read_as_written.Goals as goal

pub returns : goal.returns
returns c = read_as_written
