pub mod ReaderCases
pub mod Stretches
