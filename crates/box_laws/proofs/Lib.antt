pub mod Smallest
pub mod Reordering
pub mod Order
pub mod Written
pub mod Forms
