-- The definitions that the contracts of the commands for phrases cite.
pub mod Quoting
pub mod Scripts
