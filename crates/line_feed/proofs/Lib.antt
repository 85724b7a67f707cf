pub mod Splitting
pub mod Passing
pub mod Following
pub mod Public
