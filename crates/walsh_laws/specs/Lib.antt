pub mod Reference
pub mod Laws
