pub mod Order
pub mod SrgbRule
