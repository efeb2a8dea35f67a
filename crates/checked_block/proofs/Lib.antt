pub mod CheckedTones
pub mod CheckedCounts
pub mod Decisions
