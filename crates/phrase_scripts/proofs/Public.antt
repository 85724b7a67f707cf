-- The lemmas that proofs of other crates cite; they cite no other file of this folder.
pub use Rattle.phrase_scripts.proofs.ReadAsWritten.{read_as_written}
