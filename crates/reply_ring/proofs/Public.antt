-- The lemmas that proofs of other crates cite; they cite no other file of this folder.
pub use Rattle.reply_ring.proofs.Kept.{ring-keep}
