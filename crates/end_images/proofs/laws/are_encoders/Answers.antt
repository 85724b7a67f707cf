use Rattle.end_images.proofs.Encoders.{are_encoders}
use Rattle.end_images.proofs.laws.are_encoders.Goals as goal

pub returns : goal.returns
returns c = are_encoders c.are_stations.ensures c.messages_keep_sets_and_services.ensures
