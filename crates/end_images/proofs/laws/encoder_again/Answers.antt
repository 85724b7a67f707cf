use Rattle.end_images.proofs.Same.{encoders_same}
use Rattle.end_images.proofs.laws.encoder_again.Goals as goal

pub returns : goal.returns
returns c = encoders_same c.codes_and_bytes.ensures.read_back c.made_again.ensures
