pub mod Inverse
pub mod Names
pub mod Spelled
pub mod ReadBack
pub mod Public
