pub mod Exact
pub mod Laws
