pub mod Decoding
pub mod Internal
