-- The lemmas that proofs of other crates cite; they cite no other file of this folder.
pub use Rattle.rds_groups.proofs.ReceiverReading.{comes_whole, no_word_is_wrong}
pub use Rattle.rds_groups.proofs.SynchroniserReading.{texts_add_up}
