pub mod Plain
pub mod Objects
pub mod OneLine
pub mod ReadBack
pub mod Public
