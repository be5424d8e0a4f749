pub mod ReadingCases
pub mod WritingCases
pub mod StoredCases
