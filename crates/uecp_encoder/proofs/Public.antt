-- The lemmas that proofs of other crates cite; they cite no other file of this folder.
pub use Rattle.uecp_encoder.proofs.Repeating.{retry_acts_once_lem}
pub use Rattle.uecp_encoder.proofs.Ordering.{applied_once_lem}
pub use Rattle.uecp_encoder.proofs.Joining.{back, counters, joins_from, joins_lem, replied_from, some_back}
pub use Rattle.uecp_encoder.proofs.InPieces.{after_findings-append, fed-part, findings_open, in_pieces_of_encoder}
pub use Rattle.uecp_encoder.proofs.InParts.{fed_none}
pub use Rattle.uecp_encoder.proofs.Unchanged.{unchanged}
pub use Rattle.uecp_encoder.proofs.Together.{serves_fault}
