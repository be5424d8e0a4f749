pub mod Owed
pub mod Call
