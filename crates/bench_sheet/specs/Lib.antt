pub mod Heard
pub mod Sheet
