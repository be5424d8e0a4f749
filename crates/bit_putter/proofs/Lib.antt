pub mod Cases
pub mod Putting
pub mod Gathering
