pub mod Doing
pub mod Examples
pub mod Left
pub mod Lengths
