-- The lemmas that proofs of other crates cite; they cite no other file of this folder.
pub use Rattle.state_jobs.proofs.Ending.{closed_well, says_more}
