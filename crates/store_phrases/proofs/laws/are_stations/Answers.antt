use Rattle.store_phrases.proofs.Stations.{are_stations}
use Rattle.store_phrases.proofs.laws.are_stations.Goals as goal

pub returns : goal.returns
returns c = are_stations
