pub mod Counts
pub mod Internal
