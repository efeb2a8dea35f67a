pub mod Starts
pub mod Internal
