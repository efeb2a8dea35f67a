pub mod Lists
pub mod Sums
pub mod Places
pub mod Found
pub mod Caps
pub mod Laws
