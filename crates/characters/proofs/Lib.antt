pub mod TableSigns
pub mod Reached
