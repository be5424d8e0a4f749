pub mod Lengths
pub mod Positions
pub mod Planes
pub mod Cases
