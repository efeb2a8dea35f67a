pub mod Conservation
pub mod Reserves
pub mod Fairness
pub mod Orders
pub mod Refusals
pub mod Wholes
