pub mod Scaled
pub mod Laws
