pub mod Counts
pub mod Seen
pub mod Characters
pub mod Clarity
pub mod DecodeCases
pub mod Answers
