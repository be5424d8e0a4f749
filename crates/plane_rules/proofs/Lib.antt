pub mod ReadCases
pub mod RetiredCases
pub mod WriteCases
pub mod Levels
pub mod Ranges
pub mod Halves
pub mod DcBlocks
pub mod Cases
