pub mod Passes
pub mod InOrder
pub mod Faults
pub mod Cases
