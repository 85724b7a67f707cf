-- The proofs of jobs.
pub mod Same
