-- The definitions that the contracts of jobs with their state in a file cite.
pub mod Texts
pub mod StateLines
pub mod Opened
pub mod Lists
pub mod ServerRun
pub mod ServerTold
pub mod ServerJob
pub mod Kept
