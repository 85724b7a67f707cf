-- The lemmas that proofs of other crates cite; they cite no other file of this folder.
pub use Rattle.kept_jobs.proofs.Outliving.{goes, goes_not_stopped, same_status, same_stop, stopped}
pub use Rattle.kept_jobs.proofs.Outliving.{told_status, told_stops}
pub use Rattle.kept_jobs.proofs.Starting.{starts_so}
pub use Rattle.kept_jobs.proofs.Calls.{After, Chain, after_none, after_on, after_stop, chain_none}
pub use Rattle.kept_jobs.proofs.Begun.{HasBegun, LeftBegun}
