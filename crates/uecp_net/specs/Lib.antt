-- The definitions that the contracts of connections cite, of a server whose state is saved too, and those of lower
-- crates that its clauses cite.
pub mod Sessions
pub mod Sending
pub mod Joining
pub mod Opening
pub mod Tcp
pub mod Keeping
pub mod SavedSending
pub mod SavedJoining
pub mod Laws
