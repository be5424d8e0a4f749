pub mod Walk
pub mod Packets
pub mod Layout
pub mod Numbers
pub mod Box
pub mod Order
pub mod Text
