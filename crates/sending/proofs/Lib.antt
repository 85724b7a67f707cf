pub mod Lent
pub mod Again
pub mod Examples
pub mod Marking
pub mod Outstanding
pub mod Stationing
pub mod Turning
pub mod Waiting
