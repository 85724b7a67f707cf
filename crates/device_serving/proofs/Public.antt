-- The lemmas that proofs of other crates cite; they cite no other file of this folder.
pub use Rattle.device_serving.proofs.Outliving.{after_status, store_status, state_stops}
pub use Rattle.device_serving.proofs.Endings.{run_told}
