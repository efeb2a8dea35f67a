pub mod Checked
pub mod Internal
pub mod Laws
