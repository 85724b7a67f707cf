-- What the contracts of exports cite of buffers, findings and objects behind handles.
pub mod Buffers
pub mod Findings
pub mod Slots
pub mod Statuses
pub mod Kinds
pub mod Calls
