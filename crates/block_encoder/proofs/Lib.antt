pub mod PartSymbols
pub mod EncodeCases
pub mod CheckCases
pub mod Ranges
