pub mod Chosen
pub mod Meeting
pub mod Cases
