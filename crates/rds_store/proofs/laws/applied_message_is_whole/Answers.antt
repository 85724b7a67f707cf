use Rattle.rds_store.proofs.MessageLaws.{applied_message_is_whole}
use Rattle.rds_store.proofs.laws.applied_message_is_whole.Goals as goal

pub returns : goal.returns
returns c = applied_message_is_whole
