pub mod Digits
pub mod BitCases
pub mod CodeCases
pub mod Tables
pub mod Lookups
pub mod LookupCases
pub mod Places
pub mod Took
