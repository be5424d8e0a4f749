pub mod Cosines
pub mod Samples
pub mod Zigzag
pub mod Picture
pub mod Call
