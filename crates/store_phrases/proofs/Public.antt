-- The lemmas that proofs of other crates cite; they cite no other file of this folder.
pub use Rattle.store_phrases.proofs.Telling.{said_by_elements}
pub use Rattle.store_phrases.proofs.Elements.{IsSayable, all_sayable}
pub use Rattle.store_phrases.proofs.Stations.{are_stations}
pub use Rattle.store_phrases.proofs.Heard.{Begins, Ends, heard_whole}
pub use Rattle.store_phrases.proofs.Messages.{store_said}
