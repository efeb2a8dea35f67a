pub mod Products
pub mod Scaled
