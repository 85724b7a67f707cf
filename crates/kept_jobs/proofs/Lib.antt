pub mod Outliving
pub mod Starting
pub mod Calls
pub mod Begun
pub mod Public
