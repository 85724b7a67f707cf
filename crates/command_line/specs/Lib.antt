-- The definitions that the contracts of the command line cite.
pub mod Ranges
pub mod Usages
pub mod OptionTexts
pub mod TitleLines
pub mod CommandLine
pub mod Rows
pub mod FileLines
pub mod Settled
pub mod Naming
