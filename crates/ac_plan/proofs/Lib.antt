pub mod Cases
pub mod KindTests
pub mod Looking
pub mod Tasks
