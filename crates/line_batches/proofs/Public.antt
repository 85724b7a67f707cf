-- The lemmas that proofs of other crates cite; they cite no other file of this folder.
pub use Rattle.line_batches.proofs.Seeing.{is_seen}
