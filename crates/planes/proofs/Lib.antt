pub mod Onto
pub mod LowBit
pub mod Closing
