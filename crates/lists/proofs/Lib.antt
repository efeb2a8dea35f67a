pub mod Integers
pub mod Sums
pub mod Tables
pub mod Places
pub mod Found
pub mod Fronts
pub mod Joins
pub mod Tabled
