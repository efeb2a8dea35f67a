pub mod Counts
pub mod Parts
pub mod EncodeCases
pub mod SentBlocks
pub mod Sending
