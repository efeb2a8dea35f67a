pub mod FirstBlocks
pub mod SentBlocks
pub mod Raised
