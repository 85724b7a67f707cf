pub mod Heard
pub mod HeardBits
pub mod Texts
pub mod Same
pub mod Telling
pub mod OneThing
