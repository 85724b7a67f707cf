-- The definitions that the program's contracts cite.
pub mod Kept
pub mod Ends
pub mod Apart
pub mod Program
