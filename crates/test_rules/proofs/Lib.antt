pub mod Fields
pub mod Steps
pub mod FieldCases
pub mod TallyCases
