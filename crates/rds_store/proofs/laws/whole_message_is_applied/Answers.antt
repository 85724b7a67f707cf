use Rattle.rds_store.proofs.MessageLaws.{whole_message_is_applied}
use Rattle.rds_store.proofs.laws.whole_message_is_applied.Goals as goal

pub returns : goal.returns
returns c = whole_message_is_applied
