pub mod Serving
pub mod Outliving
pub mod InOrder
pub mod Endings
pub mod Public
pub mod AirTallying
pub mod AirChain
pub mod AirOutliving
