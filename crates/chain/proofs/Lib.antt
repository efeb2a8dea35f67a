pub mod Xors
pub mod Binary
pub mod Interleaving
pub mod GrayCodes
pub mod Keys
pub mod Tones
pub mod Values
pub mod Rows
