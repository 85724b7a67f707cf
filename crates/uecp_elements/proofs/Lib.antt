pub mod CodeBytes
pub mod First
pub mod Items
pub mod Public
