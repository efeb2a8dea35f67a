pub mod Decision
pub mod Laws
