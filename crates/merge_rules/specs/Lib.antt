pub mod Near
pub mod Srgb
pub mod Curves
pub mod Pixels
pub mod Steps
pub mod Settings
pub mod Picture
pub mod Call
