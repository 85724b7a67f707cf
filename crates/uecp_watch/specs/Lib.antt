-- The definitions that the contracts of watching a control line cite.
pub mod Watching
