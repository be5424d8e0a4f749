pub mod Laws
pub mod Tones
pub mod Cases
