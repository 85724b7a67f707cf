-- The lemmas that proofs of other crates cite; they cite no other file of this folder.
pub use Rattle.uecp_net.proofs.Joined.{begins_anew_lem}
