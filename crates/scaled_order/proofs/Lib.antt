pub mod Comparing
pub mod Signs
pub mod Distances
