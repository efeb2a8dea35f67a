pub mod Choice
pub mod Parities
