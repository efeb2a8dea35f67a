pub mod Limits
pub mod Frequencies
pub mod Locating
pub mod Internal
pub mod Laws
