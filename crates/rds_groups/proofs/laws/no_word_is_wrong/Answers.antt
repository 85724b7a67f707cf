use Rattle.rds_groups.proofs.ReceiverReading.{no_word_is_wrong}
use Rattle.rds_groups.proofs.laws.no_word_is_wrong.Goals as goal

pub returns : goal.returns
returns c = no_word_is_wrong
