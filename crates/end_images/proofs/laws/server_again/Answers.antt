use Rattle.end_images.proofs.Same.{servers_same}
use Rattle.end_images.proofs.laws.server_again.Goals as goal

pub returns : goal.returns
returns c = servers_same
