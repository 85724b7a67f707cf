pub mod Fronts
pub mod Joined
pub mod LastLines
pub mod Members
pub mod OwnOptions
