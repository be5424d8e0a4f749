pub mod Entering
pub mod Assigning
