pub mod Pieces
pub mod Listings
pub mod Computed
