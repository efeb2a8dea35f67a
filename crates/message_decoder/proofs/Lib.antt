pub mod ToneRanges
pub mod DecodeCases
pub mod HeardBlocks
pub mod Hearing
