use Rattle.promises.proofs.Service.{music_is_told}
use Rattle.promises.proofs.air.music_is_told.Goals as goal

pub returns : goal.returns
returns c = music_is_told
