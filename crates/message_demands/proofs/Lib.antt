pub mod SentMessages
pub mod RoundTrips
pub mod CleanBlocks
pub mod HeardMessages
pub mod Raised
