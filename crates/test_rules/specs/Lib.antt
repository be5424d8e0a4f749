pub mod Fields
pub mod Wanted
pub mod Runs
