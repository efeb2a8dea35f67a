pub mod Limits
pub mod Numbers
pub mod Checked
pub mod Agreement
