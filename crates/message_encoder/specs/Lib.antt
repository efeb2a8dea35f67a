pub mod Blocks
pub mod Encoding
