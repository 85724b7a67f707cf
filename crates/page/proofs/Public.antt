-- The lemmas that proofs of other crates cite.
pub use Rattle.page.proofs.Refused.{refused_exactly}
pub use Rattle.page.proofs.Tidings.{kept_in, served_as, served_next, served_last, served_nobody}
