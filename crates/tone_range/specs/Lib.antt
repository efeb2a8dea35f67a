pub mod Range
pub mod Laws
