-- The lemmas that proofs of other crates cite; they cite no other file of this folder.
pub use Rattle.rds_text.proofs.Inverse.{small}
pub use Rattle.rds_text.proofs.Names.{named_once}
pub use Rattle.rds_text.proofs.ReadBack.{one_spelling, read_back}
