pub mod Telling
pub mod ReadAsWritten
pub mod Public
