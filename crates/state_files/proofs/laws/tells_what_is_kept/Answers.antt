use Rattle.state_files.proofs.OneEncoder.{encoders_told}
use Rattle.state_files.proofs.laws.tells_what_is_kept.Goals as goal

pub returns : goal.returns
returns c = encoders_told c.codes_and_bytes.ensures.read_back c.is_known_by_places.ensures
