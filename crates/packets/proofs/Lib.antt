pub mod Quick
pub mod Meeting
