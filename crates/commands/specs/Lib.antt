-- The definitions that contracts on jobs cite.
pub mod Jobs
pub mod Host
