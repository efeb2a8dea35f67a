pub mod Finding
pub mod Stretch
