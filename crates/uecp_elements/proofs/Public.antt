-- The lemmas that proofs of other crates cite; they cite no other file of this folder.
pub use Rattle.uecp_elements.proofs.Items.{has_reading, only_reading, reads_items, spelling_some}
