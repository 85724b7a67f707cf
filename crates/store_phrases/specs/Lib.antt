-- The definitions that the contracts of a store in phrases cite.
pub mod Said
pub mod Station
pub mod Laws
