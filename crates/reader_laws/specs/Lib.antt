pub mod Input
pub mod Laws
