-- The lemmas that proofs of other crates cite; they cite no other file of this folder.
pub use Rattle.uecp_text.proofs.Leading.{Leads, adds_then, leads_end, leads_from, leads_on}
pub use Rattle.uecp_text.proofs.Begun.{all_begun, appends_nothing, appends_then, begun_on}
pub use Rattle.uecp_text.proofs.Lines.{empty_is}
pub use Rattle.uecp_text.proofs.Runs.{texts_by_line}
