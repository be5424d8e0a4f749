pub mod Laws
pub mod Tones
