pub mod Encoding
pub mod Internal
pub mod Checking
