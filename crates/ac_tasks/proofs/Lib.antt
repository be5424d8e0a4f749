pub mod Numbers
pub mod Tasks
