pub mod Windows
pub mod Clears
pub mod Lasts
