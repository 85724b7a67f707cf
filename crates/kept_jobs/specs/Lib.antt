-- The definitions that the contracts of jobs with kept state cite.
pub mod Stops
pub mod ServerRun
pub mod ServerKept
