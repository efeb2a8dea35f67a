pub mod Symbols
pub mod Internal
