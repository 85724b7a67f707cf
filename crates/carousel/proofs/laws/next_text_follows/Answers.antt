use Rattle.carousel.proofs.Passes.{next_text_follows}
use Rattle.carousel.proofs.laws.next_text_follows.Goals as goal

pub returns : goal.returns
returns c = next_text_follows
