pub mod Cases
pub mod Taking
