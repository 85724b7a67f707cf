-- The definitions of the store, and those of elements that its clauses cite.
pub mod Bits
pub mod Value
pub mod Names
pub mod Content
pub mod Refusals
pub mod Put
pub mod Step
pub mod Opening
pub mod Fault
pub mod Kept
pub mod Laws
pub use Rattle.uecp_elements.specs.Grammar
pub use Rattle.uecp_elements.specs.View
