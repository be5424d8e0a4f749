pub mod Tables
pub mod Weights
pub mod Refusals
