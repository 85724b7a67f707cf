use Rattle.carousel.proofs.Passes.{goes_out_in_passes}
use Rattle.carousel.proofs.laws.goes_out_in_passes.Goals as goal

pub returns : goal.returns
returns c = goes_out_in_passes
