pub mod Refused
pub mod Reasons
pub mod Checks
