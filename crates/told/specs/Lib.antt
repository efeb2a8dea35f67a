pub mod Told
pub mod Capped
