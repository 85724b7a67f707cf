-- The lemmas that proofs of other crates cite; they cite no other file of this folder.
pub use Rattle.uecp_jobs.proofs.Parts.{whole_part}
pub use Rattle.uecp_jobs.proofs.Doing.{breaks_fails, job_status, not_failed, same_fault, says_status, setup_wants}
pub use Rattle.uecp_jobs.proofs.Doing.{stopped}
pub use Rattle.uecp_jobs.proofs.BatchLines.{adds_on, all_held, all_loan, all_tries, all_wait, drop_min, none_by_test}
pub use Rattle.uecp_jobs.proofs.BatchLines.{submitted_on}
pub use Rattle.uecp_jobs.proofs.Settling.{SettlesSo, some_held}
pub use Rattle.uecp_jobs.proofs.Pieces.{fed_nothing, fed_on, responses_on, responses_to_nothing}
